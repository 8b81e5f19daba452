-- Plain words of `certify`, and what they say.
use Rattle.std.specs.Prelude.{ℕ, true, false, List, [], ◌∷◌, Some, None, codes, ⊤}
use Rattle.osm_words.specs.PlainWords.{Form, letter, long, plain_words_of_two, ArePlainWordsOfTwo, said_with}
use Rattle.osm_words.specs.PlainExport.{ArePlainKeys, ids_text}
use Rattle.osm_words.specs.Job.{CertifySettings}
use Rattle.osm_objects.specs.declared.area.UniqueId.{UniqueId}

-- an option, with its value in range; keys as they are written, and what they are
pub data CertifyOption : Type 0 where
  keep_untagged : CertifyOption
  ids : UniqueId → CertifyOption
  area_keys : List ℕ → List (List ℕ) → CertifyOption
  linear_keys : List ℕ → List (List ℕ) → CertifyOption

-- ---- how options are written

-- A value stands in the next word. The options of keys have no letter and are written by their long forms.
abbrev pub option_words : Form → CertifyOption → List (List ℕ)
option_words letter keep_untagged = codes "-n" ∷ []
option_words letter (ids i) = codes "-u" ∷ ids_text i ∷ []
option_words letter (area_keys written keys) = codes "--area-keys" ∷ written ∷ []
option_words letter (linear_keys written keys) = codes "--linear-keys" ∷ written ∷ []
option_words long keep_untagged = codes "--keep-untagged" ∷ []
option_words long (ids i) = codes "--add-unique-id" ∷ ids_text i ∷ []
option_words long (area_keys written keys) = codes "--area-keys" ∷ written ∷ []
option_words long (linear_keys written keys) = codes "--linear-keys" ∷ written ∷ []

-- the words of a run
abbrev pub certify_words : List (Form × CertifyOption) → List ℕ → List ℕ → List (List ℕ)
certify_words options file text = codes "certify" ∷ plain_words_of_two option_words options file text

-- ---- which of them are plain

abbrev pub name_of : CertifyOption → List ℕ
name_of keep_untagged = codes "keep-untagged"
name_of (ids i) = codes "ids"
name_of (area_keys written keys) = codes "area-keys"
name_of (linear_keys written keys) = codes "linear-keys"

abbrev pub HasPlainValue : CertifyOption → Type 0
HasPlainValue keep_untagged = ⊤
HasPlainValue (ids i) = ⊤
HasPlainValue (area_keys written keys) = ArePlainKeys written keys
HasPlainValue (linear_keys written keys) = ArePlainKeys written keys

-- Each option stands at most once, keys are what is written, and no value begins with a dash. Nor does a name, but that one of the two may be a lone dash.
abbrev pub ArePlainCertify : List (Form × CertifyOption) → List ℕ → List ℕ → Type 0
ArePlainCertify options file text = ArePlainWordsOfTwo name_of HasPlainValue options file text

-- ---- what they say

-- without options
abbrev pub default_settings : List ℕ → List ℕ → CertifySettings
default_settings file text = record {
  file = file;
  text = text;
  keep_untagged = false;
  ids = None;
  area_keys = None;
  linear_keys = None;
}

abbrev pub with_option : CertifyOption → CertifySettings → CertifySettings
with_option keep_untagged s = record s { keep_untagged = true }
with_option (ids i) s = record s { ids = Some i }
with_option (area_keys written keys) s = record s { area_keys = Some keys }
with_option (linear_keys written keys) s = record s { linear_keys = Some keys }

abbrev pub said_certify : List (Form × CertifyOption) → List ℕ → List ℕ → CertifySettings
said_certify options file text = said_with with_option (default_settings file text) options
