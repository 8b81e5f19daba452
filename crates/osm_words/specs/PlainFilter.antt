-- Plain words of `coast-filter`, and what they say.
use Rattle.std.specs.Prelude.{◌≡◌, ℕ, true, false, List, [], ◌∷◌, codes, ⊤}
use Rattle.osm_words.specs.PlainWords.{Form, letter, long, plain_words, begins_with_dash, ArePlainWords, said_with}
use Rattle.osm_words.specs.Job.{FilterSettings}

pub data FilterOption : Type 0 where
  output : List ℕ → FilterOption
  overwrite : FilterOption

-- ---- how options are written

-- A value stands in the next word.
abbrev pub option_words : Form → FilterOption → List (List ℕ)
option_words letter (output name) = codes "-o" ∷ name ∷ []
option_words letter overwrite = codes "-O" ∷ []
option_words long (output name) = codes "--output" ∷ name ∷ []
option_words long overwrite = codes "--overwrite" ∷ []

-- the words of a run
abbrev pub filter_words : List (Form × FilterOption) → List ℕ → List (List ℕ)
filter_words options file = codes "coast-filter" ∷ plain_words option_words options file

-- ---- which of them are plain

abbrev pub name_of : FilterOption → List ℕ
name_of (output name) = codes "output"
name_of overwrite = codes "overwrite"

abbrev pub HasPlainValue : FilterOption → Type 0
HasPlainValue (output name) = begins_with_dash name ≡ false
HasPlainValue overwrite = ⊤

-- Each option stands at most once, no value begins with a dash, and the file's name doesn't either or is a lone dash.
abbrev pub ArePlainFilter : List (Form × FilterOption) → List ℕ → Type 0
ArePlainFilter options file = ArePlainWords name_of HasPlainValue options file

-- ---- what they say

-- without options
abbrev pub default_settings : List ℕ → FilterSettings
default_settings file = record { file = file; output = codes "-"; overwrite = false }

abbrev pub with_option : FilterOption → FilterSettings → FilterSettings
with_option (output name) s = record s { output = name }
with_option overwrite s = record s { overwrite = true }

abbrev pub said_filter : List (Form × FilterOption) → List ℕ → FilterSettings
said_filter options file = said_with with_option (default_settings file) options
