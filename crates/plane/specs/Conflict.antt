-- Segments that conflict: they overlap or cross. A segment is an edge with its lower end first.
use Rattle.std.specs.Prelude.{Bool, false, not, ◌&&◌, ◌||◌, ◌≡◌}
use Rattle.plane.specs.Edge.{Edge}
use Rattle.plane.specs.Order.{order}
use Rattle.plane.specs.Sign.{are_opposite, is_null, is_plus}
use Rattle.plane.specs.Vector.{Vector, orient}

-- p lies on the line of s, strictly between its ends in the order of points
abbrev pub is_inside : Vector → Edge → Bool
is_inside p s = is_null (orient s.from s.to p) && (is_plus (order s.from p) && is_plus (order p s.to))

-- both ends of t lie on the line of s
abbrev pub is_along : Edge → Edge → Bool
is_along s t = is_null (orient s.from s.to t.from) && is_null (orient s.from s.to t.to)

-- an end of t lies strictly inside s
abbrev pub is_touched_by : Edge → Edge → Bool
is_touched_by s t = is_inside t.from s || is_inside t.to s

-- the ends of t lie strictly on opposite sides of the line of s
abbrev pub is_parted_by : Edge → Edge → Bool
is_parted_by t s = are_opposite (orient s.from s.to t.from) (orient s.from s.to t.to)

-- the two lie on one line, and each begins before the other ends: they share more than one point
abbrev pub overlaps : Edge → Edge → Bool
overlaps s t =
    (is_along s t && is_along t s) && (is_plus (order s.from t.to) && is_plus (order t.from s.to))

-- the two share one point, which is not an end of both
abbrev pub crosses : Edge → Edge → Bool
crosses s t =
    not (overlaps s t) && ((is_touched_by s t || is_touched_by t s) || (is_parted_by t s && is_parted_by s t))

-- whether two segments conflict; a segment conflicts with itself
abbrev pub conflicts : Edge → Edge → Bool
conflicts s t = overlaps s t || crosses s t

abbrev pub IsClearOf : Edge → Edge → Type 0
IsClearOf s t = conflicts s t ≡ false
