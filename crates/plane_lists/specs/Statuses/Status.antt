-- The status of a sweep: the items of a list that span a height, from left to right just above it.
use Rattle.std.specs.Prelude.{All, AllPairs, List, filter, sum_by, true, ℕ, ◌≡◌}
use Rattle.plane.specs.Edge.{Edge}
use Rattle.plane.specs.Height.{is_in_span, order_above}
use Rattle.plane.specs.Sign.{is_plus}
use Rattle.plane.specs.Vector.{Vector}
use Rattle.lists.specs.Member.{In}

-- the items that span the height of p
abbrev pub spanning : {X : Type 0} → (X → Edge) → Vector → List X → List X
spanning {X} edge p xs = filter (λ (x : X). is_in_span p (edge x)) xs

-- y is right of x just above the height of p
abbrev pub IsRightJustAbove : {X : Type 0} → (X → Edge) → Vector → X → X → Type 0
IsRightJustAbove edge p x y = is_plus (order_above p (edge x) (edge y)) ≡ true

pub record IsStatus {X : Type 0} (edge : X → Edge) (p : Vector) (xs status : List X) : Type 0 where
  pub order : AllPairs (IsRightJustAbove edge p) status
  pub whole : (f : X → ℕ) → sum_by f status ≡ sum_by f (spanning edge p xs)
  pub members : All (λ (x : X). In x (spanning edge p xs)) status
