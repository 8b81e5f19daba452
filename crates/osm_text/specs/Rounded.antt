-- Rings of which each point is rounded to a location.
use Rattle.std.specs.Prelude.{Bool, not, ◌&&◌, List, [], ◌∷◌, ◌++◌, Option, None, drop, if◌then◌else◌, length, map, nat_lt, option_map, take}
use Rattle.std.specs.List.{find, list_all}
use Rattle.std.specs.Ordering.{int_eq, is_lt}
use Rattle.osm_lattice.specs.declared.loc.Loc.{Loc}
use Rattle.osm_lattice.specs.Frac.{rounded}
use Rattle.osm_geom.specs.declared.edge.Edge.{Edge}
use Rattle.osm_geom.specs.declared.point.Point.{Point}
use Rattle.osm_geom.specs.Point.{IsInWorld, point_cmp, x_of, y_of}
use Rattle.osm_notation.proofs.RoundedRange.{rounded_latitude, rounded_longitude}

-- the location next to a point of the world: each of its coordinates is rounded to a whole number
abbrev pub location_near : (p : Point) → IsInWorld p → Loc
location_near p inside = record {
  x = rounded (x_of p).num (x_of p).den;
  y = rounded (y_of p).num (y_of p).den;
  x_in = rounded_longitude p inside;
  y_in = rounded_latitude p inside;
}

-- the location next to the point that an edge leaves
abbrev pub start_near : Edge → Loc
start_near edge = location_near edge.from edge.from_in

-- two locations are one
abbrev pub is_same : Loc → Loc → Bool
is_same p q = int_eq p.x q.x && int_eq p.y q.y

-- the locations that aren't the ones at the same places of another list
abbrev pub unlike : List Loc → List Loc → List Loc
unlike [] others = []
unlike (p ∷ ps) [] = p ∷ ps
unlike (p ∷ ps) (q ∷ qs) = if is_same p q then unlike ps qs else p ∷ unlike ps qs

-- equal neighbours of a ring once: the locations that aren't the next ones, where the first comes behind the last
abbrev pub neighbours_once : List Loc → List Loc
neighbours_once ring = unlike ring (drop 1 ring ++ take 1 ring)

-- what is left of a ring once its points are rounded
abbrev pub rounded_ring : List Edge → List Loc
rounded_ring edges = neighbours_once (map start_near edges)

-- fewer than three locations, which with the first again at the end are four positions
abbrev pub has_vanished : List Edge → Bool
has_vanished edges = nat_lt (length (rounded_ring edges)) 3

-- no edge leaves a lesser point
abbrev pub leaves_least : List Edge → Edge → Bool
leaves_least edges edge = list_all (λ (other : Edge). not (is_lt (point_cmp other.from edge.from))) edges

-- the least node of a ring, rounded
abbrev pub least_near : List Edge → Option Loc
least_near edges = option_map start_near (find (leaves_least edges) edges)

-- where a ring has vanished
abbrev pub vanished_at : List Edge → Option Loc
vanished_at edges = if has_vanished edges then least_near edges else None
