-- How far a tally of a sorted list has come, or the search for the items that stand an odd number of times.
use Rattle.std.specs.Prelude.{◌≡◌, ◌≤◌, ◌%◌, false, length, List, All, count_by, min}
use Rattle.std.specs.declared.cmp.Ordering.{Ordering}
use Rattle.std.specs.Ordering.{is_eq, is_gt, on}
use Rattle.lists.specs.declared.tally.Tally.{Tally}
use Rattle.lists.specs.Rising.{IsRising, count_of}

-- no item is above x
abbrev pub UpTo : {X : Type 0} → (X → X → Ordering) → X → List X → Type 0
UpTo cmp x xs = All (λ y. is_gt (cmp y x) ≡ false) xs

-- the tallies are those of the items passed so far
pub record IsTallied {X : Type 0} (cmp : X → X → Ordering) (passed : List X) (tallies : List (Tally X)) : Type 0 where
  pub rising : IsRising (on (λ t. t.item) cmp) tallies
  pub times : All (λ t. t.times ≡ count_of cmp t.item passed) tallies
  pub each : (x : X) → count_by (λ t. is_eq (cmp t.item x)) tallies ≡ min 1 (count_of cmp x passed)
  pub bounded : (x : X) → UpTo cmp x passed → All (λ t. is_gt (cmp t.item x) ≡ false) tallies

-- what is left of the items passed so far, where each two that tie cancel each other
pub record IsCancelled {X : Type 0} (cmp : X → X → Ordering) (passed left : List X) : Type 0 where
  pub rising : IsRising cmp left
  pub odd : (x : X) → count_of cmp x left ≡ count_of cmp x passed % 2
  pub bounded : (x : X) → UpTo cmp x passed → UpTo cmp x left
  pub fewer : length left ≤ length passed
  pub whole : length left ≡ length passed → left ≡ passed
