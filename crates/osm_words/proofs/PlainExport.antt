-- Plain words of `export` are taken, and give what they say. No public contract cites it.
use Rattle.std.proofs.Common.{◌≡◌, ◌++◌, ◌∙◌, List, [], ◌∷◌, Option, Some, Ok, codes, refl, ap, ap₂}
use Rattle.std.specs.Prelude.{option_map, unwrap_or}
use Rattle.clap.specs.Words.{Row, Text, first_of, matches_of}
use Rattle.osm_words.specs.ExportCommand.{export_app}
use Rattle.osm_words.specs.Job.{ExportSettings, export}
use Rattle.osm_words.specs.ExportWords.{export_asked, format_named, format_said, in_range, settings_said, settings_with}
use Rattle.osm_words.specs.Ranges.{ids_said, keys_asked}
use Rattle.osm_words.specs.Parsed.{is_set, unless_refused}
use Rattle.osm_words.specs.Words.{as_job, job_asked}
use Rattle.osm_words.specs.PlainWords.{Form, HavePlainValues, plain_words}
use Rattle.osm_words.specs.PlainExport.{ArePlain, ExportOption, export_words, format_text, format, output, overwrite, keep_untagged, ids, omit_rs, show_errors, stop_on_error, area_keys, linear_keys, HasPlainValue, name_of, option_words, said, with_option}
use Rattle.osm_words.specs.declared.settings.Format.{Format}
use Rattle.osm_words.specs.declared.settings.Format.TheVariants.{GeoJson, GeoJsonSeq, Text as PlainText}
use Rattle.osm_objects.specs.declared.area.UniqueId.{UniqueId}
use Rattle.osm_words.proofs.Walk.{Ends, ends, row_for, rows_with}
use Rattle.osm_words.proofs.Taken.{given, taken, value_in}
use Rattle.osm_words.proofs.PlainAnswers.{ids_read, SaysFlag, SaysText, flag_read, text_read}
use Rattle.osm_words.proofs.ExportOptions.{export_ends_well, export_file, export_options, top, value_text}

abbrev option_rows : List (Form × ExportOption) → List Row
option_rows options = rows_with top export_options options

-- ---- what the words say

record Say (rows : List Row) (s : ExportSettings) : Type 0 where
  format : format_said (value_in top (codes "format") rows) ≡ Some s.format
  output : SaysText top rows (codes "output") (codes "-") s.output
  overwrite : SaysFlag top rows (codes "overwrite") s.overwrite
  keep_untagged : SaysFlag top rows (codes "keep-untagged") s.keep_untagged
  ids : ids_said (value_in top (codes "ids") rows) ≡ Some s.ids
  omit_rs : SaysFlag top rows (codes "omit-rs") s.omit_rs
  show_errors : SaysFlag top rows (codes "show-errors") s.show_errors
  stop_on_error : SaysFlag top rows (codes "stop-on-error") s.stop_on_error
  area_keys : keys_asked (value_in top (codes "area-keys") rows) ≡ Some s.area_keys
  linear_keys : keys_asked (value_in top (codes "linear-keys") rows) ≡ Some s.linear_keys
  file : SaysText top rows (codes "file") [] s.file

format_read : (f : Format) → format_named (format_text f) ≡ Some f
format_read GeoJson = refl
format_read GeoJsonSeq = refl
format_read PlainText = refl

say_more : (c : ExportOption) (rows : List Row) (s : ExportSettings) → HasPlainValue c → Say rows s → Say (row_for (name_of c) (value_text c) ∷ rows) (with_option c s)
say_more (format f) rows s plain more = record { format = format_read f; output = more.output; overwrite = more.overwrite; keep_untagged = more.keep_untagged; ids = more.ids; omit_rs = more.omit_rs; show_errors = more.show_errors; stop_on_error = more.stop_on_error; area_keys = more.area_keys; linear_keys = more.linear_keys; file = more.file }
say_more (output name) rows s plain more = record { format = more.format; output = refl; overwrite = more.overwrite; keep_untagged = more.keep_untagged; ids = more.ids; omit_rs = more.omit_rs; show_errors = more.show_errors; stop_on_error = more.stop_on_error; area_keys = more.area_keys; linear_keys = more.linear_keys; file = more.file }
say_more overwrite rows s plain more = record { format = more.format; output = more.output; overwrite = refl; keep_untagged = more.keep_untagged; ids = more.ids; omit_rs = more.omit_rs; show_errors = more.show_errors; stop_on_error = more.stop_on_error; area_keys = more.area_keys; linear_keys = more.linear_keys; file = more.file }
say_more keep_untagged rows s plain more = record { format = more.format; output = more.output; overwrite = more.overwrite; keep_untagged = refl; ids = more.ids; omit_rs = more.omit_rs; show_errors = more.show_errors; stop_on_error = more.stop_on_error; area_keys = more.area_keys; linear_keys = more.linear_keys; file = more.file }
say_more (ids i) rows s plain more = record { format = more.format; output = more.output; overwrite = more.overwrite; keep_untagged = more.keep_untagged; ids = ids_read i; omit_rs = more.omit_rs; show_errors = more.show_errors; stop_on_error = more.stop_on_error; area_keys = more.area_keys; linear_keys = more.linear_keys; file = more.file }
say_more omit_rs rows s plain more = record { format = more.format; output = more.output; overwrite = more.overwrite; keep_untagged = more.keep_untagged; ids = more.ids; omit_rs = refl; show_errors = more.show_errors; stop_on_error = more.stop_on_error; area_keys = more.area_keys; linear_keys = more.linear_keys; file = more.file }
say_more show_errors rows s plain more = record { format = more.format; output = more.output; overwrite = more.overwrite; keep_untagged = more.keep_untagged; ids = more.ids; omit_rs = more.omit_rs; show_errors = refl; stop_on_error = more.stop_on_error; area_keys = more.area_keys; linear_keys = more.linear_keys; file = more.file }
say_more stop_on_error rows s plain more = record { format = more.format; output = more.output; overwrite = more.overwrite; keep_untagged = more.keep_untagged; ids = more.ids; omit_rs = more.omit_rs; show_errors = more.show_errors; stop_on_error = refl; area_keys = more.area_keys; linear_keys = more.linear_keys; file = more.file }
say_more (area_keys written keys) rows s plain more = record { format = more.format; output = more.output; overwrite = more.overwrite; keep_untagged = more.keep_untagged; ids = more.ids; omit_rs = more.omit_rs; show_errors = more.show_errors; stop_on_error = more.stop_on_error; area_keys = ap (option_map (λ (ks : List Text). Some ks)) plain.1; linear_keys = more.linear_keys; file = more.file }
say_more (linear_keys written keys) rows s plain more = record { format = more.format; output = more.output; overwrite = more.overwrite; keep_untagged = more.keep_untagged; ids = more.ids; omit_rs = more.omit_rs; show_errors = more.show_errors; stop_on_error = more.stop_on_error; area_keys = more.area_keys; linear_keys = ap (option_map (λ (ks : List Text). Some ks)) plain.1; file = more.file }

say : (options : List (Form × ExportOption)) (file : Text) → HavePlainValues HasPlainValue options → Say (option_rows options ++ row_for (codes "file") file ∷ []) (said options file)
say [] file plain = record { format = refl; output = refl; overwrite = refl; keep_untagged = refl; ids = refl; omit_rs = refl; show_errors = refl; stop_on_error = refl; area_keys = refl; linear_keys = refl; file = refl }
say (option ∷ others) file plain = say_more option.1 (option_rows others ++ row_for (codes "file") file ∷ []) (said others file) plain.0 (say others file plain.1)

-- rows in which each name has the value of `found` give what `found` says
read_by : (rows found : List Row) (s : ExportSettings) → Say found s → ((name : Text) → first_of name rows ≡ value_in top name found) → settings_said rows ≡ Ok s
read_by rows found s says same =
    let format_is : format_said (first_of (codes "format") rows) ≡ Some s.format = ap format_said (same (codes "format")) ∙ says.format in
    let ids_are : ids_said (first_of (codes "ids") rows) ≡ Some s.ids = ap ids_said (same (codes "ids")) ∙ says.ids in
    let output_is : unwrap_or (first_of (codes "output") rows) (codes "-") ≡ s.output = text_read top rows found same (codes "output") (codes "-") s.output says.output in
    let overwrite_is : is_set (codes "overwrite") rows ≡ s.overwrite = flag_read top rows found same (codes "overwrite") s.overwrite says.overwrite in
    let keep_is : is_set (codes "keep-untagged") rows ≡ s.keep_untagged = flag_read top rows found same (codes "keep-untagged") s.keep_untagged says.keep_untagged in
    let omit_is : is_set (codes "omit-rs") rows ≡ s.omit_rs = flag_read top rows found same (codes "omit-rs") s.omit_rs says.omit_rs in
    let show_is : is_set (codes "show-errors") rows ≡ s.show_errors = flag_read top rows found same (codes "show-errors") s.show_errors says.show_errors in
    let stop_is : is_set (codes "stop-on-error") rows ≡ s.stop_on_error = flag_read top rows found same (codes "stop-on-error") s.stop_on_error says.stop_on_error in
    let area_is : keys_asked (first_of (codes "area-keys") rows) ≡ Some s.area_keys = ap keys_asked (same (codes "area-keys")) ∙ says.area_keys in
    let linear_is : keys_asked (first_of (codes "linear-keys") rows) ≡ Some s.linear_keys = ap keys_asked (same (codes "linear-keys")) ∙ says.linear_keys in
    let file_is : unwrap_or (first_of (codes "file") rows) [] ≡ s.file = text_read top rows found same (codes "file") [] s.file says.file in
    let all : settings_with s.format s.ids s.area_keys s.linear_keys rows ≡ s = (λ i. record {
      format = s.format;
      output = output_is i;
      overwrite = overwrite_is i;
      keep_untagged = keep_is i;
      ids = s.ids;
      omit_rs = omit_is i;
      show_errors = show_is i;
      stop_on_error = stop_is i;
      area_keys = s.area_keys;
      linear_keys = s.linear_keys;
      file = file_is i;
    }) in
    ap₂ (λ (f : Option Format) (i : Option (Option UniqueId)). in_range f i (keys_asked (first_of (codes "area-keys") rows)) (keys_asked (first_of (codes "linear-keys") rows)) rows) format_is ids_are
    ∙ ap₂ (λ (a l : Option (Option (List Text))). in_range (Some s.format) (Some s.ids) a l rows) area_is linear_is ∙ ap Ok all

-- plain words of `export` are taken with what they say
plain_export : (options : List (Form × ExportOption)) (file : Text) → ArePlain options file → export_asked (export_words options file) ≡ Ok (said options file)
plain_export options file plain =
    let words = plain_words option_words options file in
    let used = option_rows options in
    let end : Ends top (codes "file") words used file = ends top export_options (codes "file") export_file options file plain.once plain.values plain.file_name in
    let rows = matches_of export_app (export_words options file) in
    let found : settings_said rows ≡ Ok (said options file) =
    read_by rows (used ++ row_for (codes "file") file ∷ []) (said options file) (say options file plain.values) (given top [] (codes "file") export_ends_well words used file end) in
    ap₂ unless_refused (taken top [] (codes "file") export_ends_well words used file tt end) found

pub plain_words_asked : (options : List (Form × ExportOption)) (file : Text) → ArePlain options file → job_asked (export_words options file) ≡ Ok (export (said options file))
plain_words_asked options file plain = ap (as_job export) (plain_export options file plain)
