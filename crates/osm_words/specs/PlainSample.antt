-- Plain words of `sample`: its name and a number in range.
use Rattle.std.specs.Prelude.{◌≡◌, ℕ, List, [], ◌∷◌, Some, codes}
use Rattle.osm_words.specs.SampleWords.{count_named}

-- the words of a run
abbrev pub sample_words : List ℕ → List (List ℕ)
sample_words written = codes "sample" ∷ written ∷ []

-- This is a number as it is written, and how many cells a side it says.
abbrev pub IsPlainCount : List ℕ → ℕ → Type 0
IsPlainCount written count = count_named written ≡ Some count
