-- Points strictly between two points, and edges that keep clear of them.
use Rattle.std.specs.Prelude.{Bool, not, true, ◌&&◌, ◌||◌, ◌≡◌}
use Rattle.plane.specs.Edge.{Edge}
use Rattle.plane.specs.Sign.{Minus, Null, Plus, Sign, are_opposite, is_minus, is_plus, sign}
use Rattle.plane.specs.Vector.{Vector, cross, dot, from_to}

-- p is strictly between s and t, on the segment that joins them
pub record IsBetween (s t p : Vector) : Type 0 where
  pub on_line : sign (cross (from_to s t) (from_to s p)) ≡ Null
  pub after_s : sign (dot (from_to s t) (from_to s p)) ≡ Plus
  pub before_t : sign (dot (from_to s t) (from_to p t)) ≡ Plus

-- Whether an edge misses the segment from s to t, by signs:
-- - a, b: the sides of the line from s to t that the edge's two ends are on
-- - cs, ct: the sides of the edge that s and t are on
-- - us, vs, ut, vt: where the ends are along the line, seen from s and from t
--
-- The edge is strictly on one side. Or it is on the line, not past s or not before t. Or its line passes s and t on one
-- side.
abbrev pub misses_by : Sign → Sign → Sign → Sign → Sign → Sign → Sign → Sign → Bool
misses_by Plus Plus cs ct us vs ut vt = true
misses_by Minus Minus cs ct us vs ut vt = true
misses_by Null Null cs ct us vs ut vt =
    (not (is_plus us) && not (is_plus vs)) || (not (is_minus ut) && not (is_minus vt))
misses_by a b cs ct us vs ut vt = not (are_opposite cs ct)

-- no point of the closed edge is strictly between s and t on the segment that joins them
abbrev pub Misses : Vector → Vector → Edge → Type 0
Misses s t e =
    misses_by (sign (cross (from_to s t) (from_to s e.from))) (sign (cross (from_to s t) (from_to s e.to)))
    (sign (cross (from_to s e.from) (from_to s e.to))) (sign (cross (from_to t e.from) (from_to t e.to)))
    (sign (dot (from_to s t) (from_to s e.from))) (sign (dot (from_to s t) (from_to s e.to)))
    (sign (dot (from_to s t) (from_to t e.from))) (sign (dot (from_to s t) (from_to t e.to))) ≡ true
