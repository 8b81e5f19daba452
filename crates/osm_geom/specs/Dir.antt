-- Directions, and the order of the angles by which they are turned clockwise from one.
use Rattle.std.specs.Prelude.{ℕ, ℤ, pos}
use Rattle.std.specs.declared.cmp.Ordering.{Ordering}
use Rattle.std.specs.declared.cmp.Ordering.TheVariants.{Less, Equal, Greater}
use Rattle.std.specs.Ordering.{int_cmp, nat_cmp, ordering_then}
use Rattle.plane.specs.Vector.{Vector}
use Rattle.plane.specs.Vector as vector
use Rattle.osm_geom.specs.declared.dir.Dir.{Dir}
use Rattle.osm_geom.specs.declared.turning.Turn.{Turn}
use Rattle.osm_geom.specs.declared.turning.Turn.TheVariants.{Right, Back, Left, Ahead}

-- the vector of the plane that points in the direction
abbrev pub vector_along : Dir → Vector
vector_along d = record { x = d.dx; y = d.dy }

unfoldable pub cross : Dir → Dir → ℤ
cross d e = vector.cross (vector_along d) (vector_along e)

unfoldable pub dot : Dir → Dir → ℤ
dot d e = vector.dot (vector_along d) (vector_along e)

-- by the side on which a direction lies; for one on the same line, by which way it points
abbrev pub turn_by : Ordering → Ordering → Turn
turn_by Less o = Right
turn_by Equal Less = Back
turn_by Equal Equal = Ahead
turn_by Equal Greater = Ahead
turn_by Greater o = Left

-- how far clockwise a direction is turned from another
abbrev pub turn_of : Dir → Dir → Turn
turn_of from d = turn_by (int_cmp (cross from d) (pos 0)) (int_cmp (dot from d) (pos 0))

-- the four kinds of turn, in clockwise order: below half a turn, half, above half, and a full one
abbrev pub rank_of : Turn → ℕ
rank_of Right = 0
rank_of Back = 1
rank_of Left = 2
rank_of Ahead = 3

-- the order of the angles, above 0 and up to a full turn, by which two directions are turned clockwise from a first one
abbrev pub clockwise_cmp : Dir → Dir → Dir → Ordering
clockwise_cmp from d e = ordering_then (nat_cmp (rank_of (turn_of from d)) (rank_of (turn_of from e))) (int_cmp (cross d e) (pos 0))
