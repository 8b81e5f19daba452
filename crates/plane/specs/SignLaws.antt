-- The meaning of signs and directions, as statements.
use Rattle.std.specs.Prelude.{◌↔◌, ◌≡◌}
use lib.IntN.{pos, ℤ}
use lib.Signed.{◌<ℤ◌}
use Rattle.plane.specs.Edge.{Edge, IsRisingEdge}
use Rattle.plane.specs.Sign.{Minus, Null, Plus, sign}
use Rattle.plane.specs.Vector.{IsNonZero, Vector, from_to}

abbrev pub PlusMeans : Type 0
PlusMeans = (z : ℤ) → (sign z ≡ Plus) ↔ (pos 0 <ℤ z)

abbrev pub MinusMeans : Type 0
MinusMeans = (z : ℤ) → (sign z ≡ Minus) ↔ (z <ℤ pos 0)

abbrev pub NullMeans : Type 0
NullMeans = (z : ℤ) → (sign z ≡ Null) ↔ (z ≡ pos 0)

-- every vector but zero is a direction
abbrev pub NonzeroIsDirection : Type 0
NonzeroIsDirection = (a : Vector) → (a.x ≡ pos 0 → a.y ≡ pos 0 → ⊥) → IsNonZero a

-- so is each segment's
abbrev pub SegmentHasDirection : Type 0
SegmentHasDirection = (e : Edge) → IsRisingEdge e → IsNonZero (from_to e.from e.to)
