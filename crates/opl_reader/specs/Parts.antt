-- How a line is split: fields by runs of separators, items by commas.
use Rattle.std.specs.Prelude.{◌≡◌, ◌≢◌, ℕ, ◌+◌, ◌-◌, ◌<◌, ◌⊎◌, ◌&&◌, ◌==◌, nat_lt, if◌then◌else◌, List, [], ◌∷◌, ◌++◌, length, take, slice_index, All}

-- some bytes of the line, and the byte at which they begin
pub record Part : Type 0 where
  pub at : ℕ
  pub bytes : List ℕ

abbrev pub part : ℕ → List ℕ → Part
part at bytes = record { at = at; bytes = bytes }

-- a line without the CR at its end
abbrev pub without_cr : List ℕ → List ℕ
without_cr line = if nat_lt 0 (length line) && slice_index line (length line - 1) == 13 then take (length line - 1) line else line

-- it has no such byte
abbrev pub Lacks : ℕ → List ℕ → Type 0
Lacks b bytes = All (λ x. x ≢ b) bytes

-- ---- fields

-- a space or a tab
abbrev pub IsSeparator : ℕ → Type 0
IsSeparator b = (b ≡ 32) ⊎ (b ≡ 9)

abbrev pub LacksSeparators : List ℕ → Type 0
LacksSeparators bytes = All (λ b. ¬ IsSeparator b) bytes

-- a field ends at the end of the line, and before a separator
abbrev pub EndsField : List ℕ → Type 0
EndsField [] = Unit {0}
EndsField (b ∷ bytes) = IsSeparator b

-- A text that begins at a byte of the line is split into fields: separators, a field, separators, a field, and so on.
pub data Parted : ℕ → List ℕ → List Part → Type 0 where
  ends : (at : ℕ) → Parted at [] []
  separator : (at b : ℕ) (text : List ℕ) (fields : List Part) → IsSeparator b → Parted (at + 1) text fields → Parted at (b ∷ text) fields
  field : (at : ℕ) (bytes text : List ℕ) (fields : List Part) → 0 < length bytes → LacksSeparators bytes → EndsField text → Parted (at + length bytes) text fields → Parted at (bytes ++ text) (part at bytes ∷ fields)

-- ---- items

-- A text is split into items: an item, a comma, an item, and so on.
pub data PartedByCommas : List ℕ → List (List ℕ) → Type 0 where
  last : (item : List ℕ) → Lacks 44 item → PartedByCommas item (item ∷ [])
  more : (item text : List ℕ) (items : List (List ℕ)) → Lacks 44 item → PartedByCommas text items → PartedByCommas (item ++ 44 ∷ text) (item ∷ items)
