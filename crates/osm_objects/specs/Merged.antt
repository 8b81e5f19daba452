-- One list kept as two.
-- Plain items are kept apart, and with each other item how many plain ones there are since the other item before it. Only
-- private clauses cite this.
use Rattle.std.specs.Prelude.{◌≡◌, ◌≤◌, ℕ, List, [], ◌∷◌, ◌++◌, length, take, drop}

-- an item with the count of plain ones before it
pub record Other (A : Type 0) : Type 0 where
  pub gap : ℕ
  pub item : A

abbrev pub other : {A : Type 0} → ℕ → A → Other A
other gap item = record { gap = gap; item = item }

-- all items in order
abbrev pub merged : {A : Type 0} → List A → List (Other A) → List A
merged plain [] = plain
merged plain (o ∷ others) = take o.gap plain ++ o.item ∷ merged (drop o.gap plain) others

-- the gaps and the items after the last other item are all plain items
abbrev pub Fit : {A : Type 0} → List A → List (Other A) → ℕ → Type 0
Fit plain [] since = since ≡ length plain
Fit plain (o ∷ others) since = (o.gap ≤ length plain) × Fit (drop o.gap plain) others since
