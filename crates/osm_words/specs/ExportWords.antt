-- What the words of `export` ask for: what `clap` finds in them, and then the ranges of the values.
use Rattle.std.specs.Prelude.{ℕ, List, [], Option, Some, None, Result, Ok, Err, codes, if◌then◌else◌, unwrap_or}
use Rattle.std.specs.Str.{bytes_eq}
use Rattle.clap.specs.Words.{Row, fault_of, first_of, matches_of}
use Rattle.osm_words.specs.Job.{ExportSettings}
use Rattle.osm_words.specs.ExportCommand.{export_app}
use Rattle.osm_words.specs.Parsed.{is_set, unless_refused}
use Rattle.osm_words.specs.Ranges.{ids_said, keys_asked}
use Rattle.osm_words.specs.declared.settings.Format.{Format}
use Rattle.osm_words.specs.declared.settings.Format.TheVariants.{GeoJson, GeoJsonSeq, Text as PlainText}
use Rattle.osm_objects.specs.declared.area.UniqueId.{UniqueId}
use Rattle.osm_words.specs.declared.fault.WordsFault.{WordsFault}
use Rattle.osm_words.specs.declared.fault.WordsFault.TheVariants.{OutOfRange}

-- ---- the range of the format

abbrev pub format_named : List ℕ → Option Format
format_named word =
    if bytes_eq word (codes "geojson") then Some GeoJson
    else if bytes_eq word (codes "geojsonseq") then Some GeoJsonSeq
    else if bytes_eq word (codes "text") then Some PlainText else None

-- the format of a value; geojson where there is none
abbrev pub format_said : Option (List ℕ) → Option Format
format_said None = Some GeoJson
format_said (Some word) = format_named word

-- ---- what was found

-- The output is `-` where none was found. The parser asks for a file, so there is always one.
abbrev pub settings_with : Format → Option UniqueId → Option (List (List ℕ)) → Option (List (List ℕ)) → List Row → ExportSettings
settings_with format ids area_keys linear_keys rows = record {
  file = unwrap_or (first_of (codes "file") rows) [];
  format = format;
  output = unwrap_or (first_of (codes "output") rows) (codes "-");
  overwrite = is_set (codes "overwrite") rows;
  keep_untagged = is_set (codes "keep-untagged") rows;
  ids = ids;
  omit_rs = is_set (codes "omit-rs") rows;
  show_errors = is_set (codes "show-errors") rows;
  stop_on_error = is_set (codes "stop-on-error") rows;
  area_keys = area_keys;
  linear_keys = linear_keys;
}

-- The first value out of its range refuses the words: `f`, `u`, `a`, `l` in this order, of the codes 102, 117, 97, 108.
abbrev pub in_range : Option Format → Option (Option UniqueId) → Option (Option (List (List ℕ))) → Option (Option (List (List ℕ))) → List Row →
    Result ExportSettings WordsFault
in_range None ids area_keys linear_keys rows = Err (OutOfRange 102)
in_range (Some format) None area_keys linear_keys rows = Err (OutOfRange 117)
in_range (Some format) (Some ids) None linear_keys rows = Err (OutOfRange 97)
in_range (Some format) (Some ids) (Some area_keys) None rows = Err (OutOfRange 108)
in_range (Some format) (Some ids) (Some area_keys) (Some linear_keys) rows = Ok (settings_with format ids area_keys linear_keys rows)

abbrev pub settings_said : List Row → Result ExportSettings WordsFault
settings_said rows =
    in_range (format_said (first_of (codes "format") rows)) (ids_said (first_of (codes "ids") rows))
    (keys_asked (first_of (codes "area-keys") rows)) (keys_asked (first_of (codes "linear-keys") rows)) rows

-- ---- the words

-- what the words ask of `export`, its name first, or why they aren't taken
abbrev pub export_asked : List (List ℕ) → Result ExportSettings WordsFault
export_asked words = unless_refused (fault_of export_app words) (settings_said (matches_of export_app words))
