-- Plain words of `export`, and what they say.
use Rattle.std.specs.Prelude.{◌≡◌, ℕ, true, false, List, [], ◌∷◌, Some, None, codes, ⊤}
use Rattle.opl_reader.specs.Keys.{keys_said}
use Rattle.osm_words.specs.PlainWords.{Form, letter, long, plain_words, begins_with_dash, ArePlainWords, said_with}
use Rattle.osm_words.specs.Job.{ExportSettings}
use Rattle.osm_words.specs.declared.settings.Format.{Format}
use Rattle.osm_words.specs.declared.settings.Format.TheVariants.{GeoJson, GeoJsonSeq, Text}
use Rattle.osm_objects.specs.declared.area.UniqueId.{UniqueId}
use Rattle.osm_objects.specs.declared.area.UniqueId.TheVariants.{Counter, TypeId}

-- an option, with its value in range; keys as they are written, and what they are
pub data ExportOption : Type 0 where
  format : Format → ExportOption
  output : List ℕ → ExportOption
  overwrite : ExportOption
  keep_untagged : ExportOption
  ids : UniqueId → ExportOption
  omit_rs : ExportOption
  show_errors : ExportOption
  stop_on_error : ExportOption
  area_keys : List ℕ → List (List ℕ) → ExportOption
  linear_keys : List ℕ → List (List ℕ) → ExportOption

-- ---- how options are written

abbrev pub format_text : Format → List ℕ
format_text GeoJson = codes "geojson"
format_text GeoJsonSeq = codes "geojsonseq"
format_text Text = codes "text"

abbrev pub ids_text : UniqueId → List ℕ
ids_text Counter = codes "counter"
ids_text TypeId = codes "type_id"

-- A value stands in the next word. The options of keys have no letter and are written by their long forms.
abbrev pub option_words : Form → ExportOption → List (List ℕ)
option_words letter (format f) = codes "-f" ∷ format_text f ∷ []
option_words letter (output name) = codes "-o" ∷ name ∷ []
option_words letter overwrite = codes "-O" ∷ []
option_words letter keep_untagged = codes "-n" ∷ []
option_words letter (ids i) = codes "-u" ∷ ids_text i ∷ []
option_words letter omit_rs = codes "-r" ∷ []
option_words letter show_errors = codes "-e" ∷ []
option_words letter stop_on_error = codes "-E" ∷ []
option_words letter (area_keys written keys) = codes "--area-keys" ∷ written ∷ []
option_words letter (linear_keys written keys) = codes "--linear-keys" ∷ written ∷ []
option_words long (format f) = codes "--output-format" ∷ format_text f ∷ []
option_words long (output name) = codes "--output" ∷ name ∷ []
option_words long overwrite = codes "--overwrite" ∷ []
option_words long keep_untagged = codes "--keep-untagged" ∷ []
option_words long (ids i) = codes "--add-unique-id" ∷ ids_text i ∷ []
option_words long omit_rs = codes "--omit-rs" ∷ []
option_words long show_errors = codes "--show-errors" ∷ []
option_words long stop_on_error = codes "--stop-on-error" ∷ []
option_words long (area_keys written keys) = codes "--area-keys" ∷ written ∷ []
option_words long (linear_keys written keys) = codes "--linear-keys" ∷ written ∷ []

-- the words of a run
abbrev pub export_words : List (Form × ExportOption) → List ℕ → List (List ℕ)
export_words options file = codes "export" ∷ plain_words option_words options file

-- ---- which of them are plain

abbrev pub name_of : ExportOption → List ℕ
name_of (format f) = codes "format"
name_of (output name) = codes "output"
name_of overwrite = codes "overwrite"
name_of keep_untagged = codes "keep-untagged"
name_of (ids i) = codes "ids"
name_of omit_rs = codes "omit-rs"
name_of show_errors = codes "show-errors"
name_of stop_on_error = codes "stop-on-error"
name_of (area_keys written keys) = codes "area-keys"
name_of (linear_keys written keys) = codes "linear-keys"

-- keys as they are written, and what they are
abbrev pub ArePlainKeys : List ℕ → List (List ℕ) → Type 0
ArePlainKeys written keys = (begins_with_dash written ≡ false) × (keys_said written ≡ Some keys)

abbrev pub HasPlainValue : ExportOption → Type 0
HasPlainValue (format f) = ⊤
HasPlainValue (output name) = begins_with_dash name ≡ false
HasPlainValue overwrite = ⊤
HasPlainValue keep_untagged = ⊤
HasPlainValue (ids i) = ⊤
HasPlainValue omit_rs = ⊤
HasPlainValue show_errors = ⊤
HasPlainValue stop_on_error = ⊤
HasPlainValue (area_keys written keys) = ArePlainKeys written keys
HasPlainValue (linear_keys written keys) = ArePlainKeys written keys

-- Each option stands at most once, keys are what is written, no value begins with a dash, and the file's name doesn't either or is a lone dash.
abbrev pub ArePlain : List (Form × ExportOption) → List ℕ → Type 0
ArePlain options file = ArePlainWords name_of HasPlainValue options file

-- ---- what they say

-- without options
abbrev pub default_settings : List ℕ → ExportSettings
default_settings file = record {
  file = file;
  format = GeoJson;
  output = codes "-";
  overwrite = false;
  keep_untagged = false;
  ids = None;
  omit_rs = false;
  show_errors = false;
  stop_on_error = false;
  area_keys = None;
  linear_keys = None;
}

abbrev pub with_option : ExportOption → ExportSettings → ExportSettings
with_option (format f) s = record s { format = f }
with_option (output name) s = record s { output = name }
with_option overwrite s = record s { overwrite = true }
with_option keep_untagged s = record s { keep_untagged = true }
with_option (ids i) s = record s { ids = Some i }
with_option omit_rs s = record s { omit_rs = true }
with_option show_errors s = record s { show_errors = true }
with_option stop_on_error s = record s { stop_on_error = true }
with_option (area_keys written keys) s = record s { area_keys = Some keys }
with_option (linear_keys written keys) s = record s { linear_keys = Some keys }

abbrev pub said : List (Form × ExportOption) → List ℕ → ExportSettings
said options file = said_with with_option (default_settings file) options
