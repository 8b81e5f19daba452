-- Which of two segments begins earlier.
use Rattle.std.specs.Prelude.{Bool, ◌&&◌, ◌||◌}
use Rattle.plane.specs.Edge.{Edge}
use Rattle.plane.specs.Order.{order}
use Rattle.plane.specs.Sign.{is_plus}
use Rattle.plane.specs.Vector.{orient, same_point}

-- s begins before t, by y and then by x, or at the same point as t and runs left of it
abbrev pub is_earlier : Edge → Edge → Bool
is_earlier s t =
    is_plus (order s.from t.from) || (same_point s.from t.from && is_plus (orient t.from t.to s.to))
