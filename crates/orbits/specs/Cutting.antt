-- Cutting a closed walk into closed walks that leave no key twice. A walk is a list of items, which are numbers.
-- Item i leaves the key at place i of a list of keys.
use Rattle.std.specs.Prelude.{List, [], length, slice_index, ℕ, ◌++◌, ◌<◌, ◌∷◌, ◌≡◌, ◌≢◌}

-- the key that the first of these items leaves
abbrev pub first_key : List ℕ → List ℕ → ℕ
first_key keys items = slice_index keys (slice_index items 0)

-- A piece of a closed walk, followed by the rest of the walk.
-- It leaves no key twice, and what comes next in the walk begins at the key where the piece begins.
pub record IsPiece (keys piece rest : List ℕ) : Type 0 where
  pub some : 0 < length piece
  pub simple : (i j : ℕ) → i < j → j < length piece → slice_index keys (slice_index piece i) ≢ slice_index keys (slice_index piece j)
  pub closed : first_key keys (rest ++ piece) ≡ first_key keys piece

-- The pieces in the order in which they are cut off: each is unbroken in what the earlier ones have left of the walk.
abbrev pub AreCutOff : List ℕ → List ℕ → List (List ℕ) → Type 0
AreCutOff keys walk [] = walk ≡ []
AreCutOff keys walk (p ∷ ps) = (a : List ℕ) × (b : List ℕ) × (walk ≡ a ++ (p ++ b)) × IsPiece keys p (b ++ a) × AreCutOff keys (a ++ b) ps
