-- Plain words of `locate`, and what they say.
use Rattle.std.specs.Prelude.{◌≡◌, ℕ, true, false, List, [], ◌∷◌, Some, None, codes, ⊤}
use Rattle.osm_words.specs.PlainWords.{Form, letter, long, plain_words_of_two, begins_with_dash, ArePlainWordsOfTwo, said_with}
use Rattle.osm_words.specs.PlainExport.{ArePlainKeys}
use Rattle.osm_words.specs.Job.{LocateSettings}

-- an option, with its value in range; keys as they are written, and what they are
pub data LocateOption : Type 0 where
  keep_untagged : LocateOption
  area_keys : List ℕ → List (List ℕ) → LocateOption
  linear_keys : List ℕ → List (List ℕ) → LocateOption
  output : List ℕ → LocateOption
  overwrite : LocateOption

-- ---- how options are written

-- A value stands in the next word. The options of keys have no letter and are written by their long forms.
abbrev pub option_words : Form → LocateOption → List (List ℕ)
option_words letter keep_untagged = codes "-n" ∷ []
option_words letter (area_keys written keys) = codes "--area-keys" ∷ written ∷ []
option_words letter (linear_keys written keys) = codes "--linear-keys" ∷ written ∷ []
option_words letter (output name) = codes "-o" ∷ name ∷ []
option_words letter overwrite = codes "-O" ∷ []
option_words long keep_untagged = codes "--keep-untagged" ∷ []
option_words long (area_keys written keys) = codes "--area-keys" ∷ written ∷ []
option_words long (linear_keys written keys) = codes "--linear-keys" ∷ written ∷ []
option_words long (output name) = codes "--output" ∷ name ∷ []
option_words long overwrite = codes "--overwrite" ∷ []

-- the words of a run
abbrev pub locate_words : List (Form × LocateOption) → List ℕ → List ℕ → List (List ℕ)
locate_words options file points = codes "locate" ∷ plain_words_of_two option_words options file points

-- ---- which of them are plain

abbrev pub name_of : LocateOption → List ℕ
name_of keep_untagged = codes "keep-untagged"
name_of (area_keys written keys) = codes "area-keys"
name_of (linear_keys written keys) = codes "linear-keys"
name_of (output name) = codes "output"
name_of overwrite = codes "overwrite"

abbrev pub HasPlainValue : LocateOption → Type 0
HasPlainValue keep_untagged = ⊤
HasPlainValue (area_keys written keys) = ArePlainKeys written keys
HasPlainValue (linear_keys written keys) = ArePlainKeys written keys
HasPlainValue (output name) = begins_with_dash name ≡ false
HasPlainValue overwrite = ⊤

-- Each option stands at most once, keys are what is written, and no value begins with a dash. Nor does a name, but that one of the two may be a lone dash.
abbrev pub ArePlainLocate : List (Form × LocateOption) → List ℕ → List ℕ → Type 0
ArePlainLocate options file points = ArePlainWordsOfTwo name_of HasPlainValue options file points

-- ---- what they say

-- without options
abbrev pub default_settings : List ℕ → List ℕ → LocateSettings
default_settings file points = record {
  file = file;
  points = points;
  output = codes "-";
  overwrite = false;
  keep_untagged = false;
  area_keys = None;
  linear_keys = None;
}

abbrev pub with_option : LocateOption → LocateSettings → LocateSettings
with_option keep_untagged s = record s { keep_untagged = true }
with_option (area_keys written keys) s = record s { area_keys = Some keys }
with_option (linear_keys written keys) s = record s { linear_keys = Some keys }
with_option (output name) s = record s { output = name }
with_option overwrite s = record s { overwrite = true }

abbrev pub said_locate : List (Form × LocateOption) → List ℕ → List ℕ → LocateSettings
said_locate options file points = said_with with_option (default_settings file points) options
