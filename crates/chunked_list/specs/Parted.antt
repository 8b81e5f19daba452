-- Where the items that pass a test end, told by the two beside the place. No public contract cites it.
use Rattle.std.specs.Prelude.{◌≡◌, ◌<◌, ◌-◌, Bool, List, false, length, slice_index_or, true, ℕ}

-- the item before the place passes, and the one at it doesn't
abbrev pub IsParted : {X : Type 0} → (X → Bool) → List X → ℕ → Type 0
IsParted {X} p xs place =
    (d : X) → (0 < place → p (slice_index_or xs (place - 1) d) ≡ true) × (place < length xs → p (slice_index_or xs place d) ≡ false)
