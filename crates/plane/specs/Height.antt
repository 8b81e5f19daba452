-- Where a segment is at the height of a point: the horizontal ray to the right, without a ray.
use Rattle.std.specs.Prelude.{Bool, not, ◌&&◌, ◌||◌}
use lib.IntN.{◌-ℤ◌}
use Rattle.plane.specs.Edge.{Edge}
use Rattle.plane.specs.Sign.{Sign, is_minus, is_plus, sign, then_sign}
use Rattle.plane.specs.Vector.{Vector, cross, from_to, orient, same_point}

-- the height of p is at least that of the lower end of t and less than that of its upper end (half-open rule)
abbrev pub is_in_span : Vector → Edge → Bool
is_in_span p t = not (is_plus (sign (t.from.y -ℤ p.y))) && is_plus (sign (t.to.y -ℤ p.y))

-- p is in the span of t and strictly left of it
abbrev pub is_left_of : Vector → Edge → Bool
is_left_of p t = is_in_span p t && is_plus (orient t.from t.to p)

-- the lower end of s is left of t, or t begins there too and runs to the right of s
abbrev pub starts_left_of : Edge → Edge → Bool
starts_left_of s t =
    is_in_span s.from t && (is_plus (orient t.from t.to s.from) || (same_point s.from t.from && is_minus (orient s.from s.to t.to)))

-- Where t is at the height of p, as a fraction. Its x is the height of t.
-- Its y is the distance of t to the right of p at that height, multiplied by the height of t.
abbrev pub distance_right : Vector → Edge → Vector
distance_right p t = record { x = t.to.y -ℤ t.from.y; y = cross (from_to p t.from) (from_to p t.to) }

-- Plus if f is right of e at the height of p, or at the same place there and right of it just above.
-- Both have p in their span.
abbrev pub order_above : Vector → Edge → Edge → Sign
order_above p e f =
    then_sign (sign (cross (distance_right p e) (distance_right p f))) (sign (cross (from_to f.from f.to) (from_to e.from e.to)))

-- f has p in its span, and is right of e just above the height of p
abbrev pub is_right_above : Vector → Edge → Edge → Bool
is_right_above p e f = is_in_span p f && is_plus (order_above p e f)
