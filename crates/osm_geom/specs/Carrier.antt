-- The carrier of an edge: a segment, or a line of whole coordinate.
use Rattle.std.specs.Prelude.{Bool, false, not, ℤ, pos}
use Rattle.std.specs.Ordering.{int_eq}
use Rattle.plane.specs.RayCrossing.{is_off}
use Rattle.plane.specs.Scale.{scaled_edge}
use Rattle.plane.specs.Vector.{Vector, east}
use Rattle.osm_geom.specs.declared.point.Point.{Point}
use Rattle.osm_geom.specs.declared.point.Point.TheVariants.{Lattice, OnVertical, OnHorizontal}
use Rattle.osm_geom.specs.declared.edge.Carrier.{Carrier}
use Rattle.osm_geom.specs.declared.edge.Carrier.TheVariants.{OfSeg, Vertical, Horizontal}
use Rattle.osm_lattice.specs.Loc.{step}
use Rattle.osm_geom.specs.Point.{den_of, whole_of}
use Rattle.osm_lattice.specs.Seg.{edge_of}

-- the x of p is c
abbrev pub has_x : ℤ → Point → Bool
has_x c (Lattice p) = int_eq p.x c
has_x c (OnVertical x y) = int_eq x c
has_x c (OnHorizontal x y) = false

-- the y of p is d
abbrev pub has_y : ℤ → Point → Bool
has_y d (Lattice p) = int_eq p.y d
has_y d (OnVertical x y) = false
has_y d (OnHorizontal x y) = int_eq y d

-- p lies on the carrier. A segment carries its ends and what is between them
unfoldable pub is_on : Carrier → Point → Bool
is_on (OfSeg s) p = not (is_off (whole_of p) (scaled_edge (pos (den_of p)) (edge_of s)))
is_on (Vertical c) p = has_x c p
is_on (Horizontal d) p = has_y d p

-- the direction in which a carrier rises in the order of points
abbrev pub rising_of : Carrier → Vector
rising_of (OfSeg s) = step s.a s.b
rising_of (Vertical c) = record { x = pos 0; y = pos 1 }
rising_of (Horizontal d) = east
