-- The prints of polygons, and which points they cover.
use Rattle.std.specs.Prelude.{Bool, List, [], drop, if◌then◌else◌, map, not, take, ℤ, ◌++◌, ◌∷◌}
use Rattle.std.specs.List.{count_by, zip}
use Rattle.plane_lists.specs.Rings.Cover.{covers}
use Rattle.plane_lists.specs.Lists.Parity.{is_even}
use Rattle.plane_lists.specs.Lists.ScaledEdges.{scaled_edges}
use Rattle.osm_lattice.specs.declared.loc.Loc.{Loc}
use Rattle.osm_lattice.specs.Loc.{vector_of}
use Rattle.osm_nest.specs.declared.polygon.Polygon.{Polygon}
use Rattle.osm_text.specs.Piece.{holes_left}
use Rattle.osm_text.specs.Rounded.{has_vanished, rounded_ring}
use Rattle.plane.specs.Edge as plane
use Rattle.plane.specs.Vector.{Vector}

-- the edge from one location to another
abbrev pub edge_between : Loc × Loc → plane.Edge
edge_between step = record { from = vector_of step.0; to = vector_of step.1 }

-- the edges of a printed ring: from each location to the next, and from the last to the first
abbrev pub edges_round : List Loc → List plane.Edge
edges_round ring = map edge_between (zip ring (drop 1 ring ++ take 1 ring))

-- the printed ring has the point p.x / q, p.y / q inside: it crosses the ray from there to the east an odd number of times
abbrev pub printed_has_inside : ℤ → Vector → List Loc → Bool
printed_has_inside q p ring = covers (scaled_edges q (edges_round ring)) p

-- an odd number of the rings of a printed polygon have the point inside
abbrev pub rings_cover : ℤ → Vector → List (List Loc) → Bool
rings_cover q p rings = not (is_even (count_by (printed_has_inside q p) rings))

-- the rings of a polygon that are printed, the outer one first; none if the outer one has vanished
abbrev pub printed_rings : Polygon → List (List Loc)
printed_rings polygon = if has_vanished polygon.outer then [] else rounded_ring polygon.outer ∷ holes_left polygon.inners

-- the print of the polygon covers the point
abbrev pub print_covers : ℤ → Vector → Polygon → Bool
print_covers q p polygon = rings_cover q p (printed_rings polygon)
