-- The paths along which rings run.
use Rattle.std.specs.Prelude.{All, List, None, Option, Some, map, ◌≡◌}
use Rattle.std.specs.List.{filter_map}
use Rattle.osm_geom.specs.declared.edge.Edge.{Edge}
use Rattle.osm_lattice.specs.declared.loc.Loc.{Loc}
use Rattle.osm_geom.specs.declared.point.Point.{Point}
use Rattle.osm_geom.specs.declared.point.Point.TheVariants.{Lattice, OnHorizontal, OnVertical}
use Rattle.osm_nest.specs.declared.polygon.Polygon.{Polygon}
use Rattle.osm_nest.specs.Polygons.{rings_in, rings_of}

-- the location that a lattice point is
abbrev pub location_at : Point → Option Loc
location_at (Lattice at) = Some at
location_at (OnVertical c y) = None
location_at (OnHorizontal x d) = None

-- the locations that edges leave, in order
abbrev pub path_along : List Edge → List Loc
path_along edges = filter_map (λ (edge : Edge). location_at edge.from) edges

-- those of each ring of a polygon, the outer ring's first
abbrev pub paths_in : Polygon → List (List Loc)
paths_in polygon = map path_along (rings_in polygon)

abbrev pub paths_of : List Polygon → List (List (List Loc))
paths_of polygons = map paths_in polygons

-- the path of a ring passes each point that an edge leaves
abbrev pub PassesAll : List Edge → Type 0
PassesAll edges = map Lattice (path_along edges) ≡ map (λ (edge : Edge). edge.from) edges

abbrev pub PathsPassAll : List Polygon → Type 0
PathsPassAll polygons = All PassesAll (rings_of polygons)
