-- The laws of the order of points, as statements: it is a strict total order.
use Rattle.std.specs.Prelude.{◌↔◌, ◌≡◌}
use Rattle.plane.specs.Order.{order}
use Rattle.plane.specs.Sign.{Null, Plus, negated}
use Rattle.plane.specs.Vector.{Vector}

-- only a point itself is neither before nor after it
abbrev pub PointOrderTellsApart : Type 0
PointOrderTellsApart = (p q : Vector) → (order p q ≡ Null) ↔ (p ≡ q)

-- one of two points comes before the other exactly if the other comes after it
abbrev pub PointOrderReverses : Type 0
PointOrderReverses = (p q : Vector) → order q p ≡ negated (order p q)

abbrev pub PointOrderIsTransitive : Type 0
PointOrderIsTransitive = (p q r : Vector) → order p q ≡ Plus → order q r ≡ Plus → order p r ≡ Plus
