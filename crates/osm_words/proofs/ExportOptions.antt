-- The options of `export`: its command of `clap` takes each. No public contract cites it.
use Rattle.std.proofs.Common.{◌≡◌, Bool, not, ◌||◌, ap, false, List, [], codes, refl}
use Rattle.std.specs.Str.{bytes_eq}
use Rattle.clap.specs.Words.{Row, Shape, Text, built}
use Rattle.clap.specs.Walk.{has_row}
use Rattle.clap.proofs.OnLiterals.{clap_on_literals}
use Rattle.osm_words.specs.ExportCommand.{export_app}
use Rattle.osm_words.specs.PlainWords.{Form, begins_with_dash, letter, long}
use Rattle.osm_words.specs.PlainExport.{ExportOption, HasPlainValue, format_text, ids_text, format, output, overwrite, keep_untagged, ids, omit_rs, show_errors, stop_on_error, area_keys, linear_keys, name_of, option_words}
use Rattle.osm_words.specs.declared.settings.Format.{Format}
use Rattle.osm_words.specs.declared.settings.Format.TheVariants.{GeoJson, GeoJsonSeq, Text as PlainText}
use Rattle.osm_objects.specs.declared.area.UniqueId.{UniqueId}
use Rattle.osm_objects.specs.declared.area.UniqueId.TheVariants.{Counter, TypeId}
use Rattle.clap.specs.Kinds.{check_kinds}
use Rattle.osm_words.proofs.Taken.{EndsWell}
use Rattle.osm_words.proofs.Walk.{Moves, Named, Options, Pending, Ready}
use Rattle.osm_words.proofs.Walk.{by_letter, by_long, flag_moves, option_moves, row_for}
use Rattle.osm_words.proofs.SharedOptions.{IsOption, IsPositional, named, takes_value}

abbrev pub top : Shape
top = (built export_app).top

abbrev pub value_text : ExportOption → Text
value_text (format f) = format_text f
value_text (output name) = name
value_text (ids i) = ids_text i
value_text overwrite = codes "true"
value_text keep_untagged = codes "true"
value_text omit_rs = codes "true"
value_text show_errors = codes "true"
value_text stop_on_error = codes "true"
value_text (area_keys written keys) = written
value_text (linear_keys written keys) = written

format_plain : (f : Format) → begins_with_dash (format_text f) ≡ false
format_plain GeoJson = refl
format_plain GeoJsonSeq = refl
format_plain PlainText = refl

pub ids_plain : (i : UniqueId) → begins_with_dash (ids_text i) ≡ false
ids_plain Counter = refl
ids_plain TypeId = refl

format_option : IsOption top (codes "format")
format_option = record { one = record { settles = λ word rows. refl; passes = λ word rows. refl }; ends = λ word used. refl }

output_option : IsOption top (codes "output")
output_option = record { one = record { settles = λ word rows. refl; passes = λ word rows. refl }; ends = λ word used. refl }

ids_option : IsOption top (codes "ids")
ids_option = record { one = record { settles = λ word rows. refl; passes = λ word rows. refl }; ends = λ word used. refl }

area_option : IsOption top (codes "area-keys")
area_option = record { one = record { settles = λ word rows. refl; passes = λ word rows. refl }; ends = λ word used. refl }

linear_option : IsOption top (codes "linear-keys")
linear_option = record { one = record { settles = λ word rows. refl; passes = λ word rows. refl }; ends = λ word used. refl }

pub moves : (form : Form) (c : ExportOption) (rows : List Row) (pending : Pending) (used : List Row) → Ready top rows pending used → has_row (name_of c) used ≡ false
    → HasPlainValue c → Moves top (option_words form c) (row_for (name_of c) (value_text c)) rows pending used
unfolding clap_on_literals
moves letter (format f) rows pending used ready new plain = option_moves top (codes "-f") (codes "format") (format_text f) rows pending used ready new (takes_value top (codes "format") format_option (format_text f) (format_plain f)) refl refl
moves long (format f) rows pending used ready new plain = option_moves top (codes "--output-format") (codes "format") (format_text f) rows pending used ready new (takes_value top (codes "format") format_option (format_text f) (format_plain f)) refl refl
moves letter (output name) rows pending used ready new plain = option_moves top (codes "-o") (codes "output") name rows pending used ready new (takes_value top (codes "output") output_option name plain) refl refl
moves long (output name) rows pending used ready new plain = option_moves top (codes "--output") (codes "output") name rows pending used ready new (takes_value top (codes "output") output_option name plain) refl refl
moves letter (ids i) rows pending used ready new plain = option_moves top (codes "-u") (codes "ids") (ids_text i) rows pending used ready new (takes_value top (codes "ids") ids_option (ids_text i) (ids_plain i)) refl refl
moves long (ids i) rows pending used ready new plain = option_moves top (codes "--add-unique-id") (codes "ids") (ids_text i) rows pending used ready new (takes_value top (codes "ids") ids_option (ids_text i) (ids_plain i)) refl refl
moves letter overwrite rows pending used ready new plain = flag_moves top (codes "-O") (codes "overwrite") by_letter rows pending used ready new refl refl refl
moves long overwrite rows pending used ready new plain = flag_moves top (codes "--overwrite") (codes "overwrite") by_long rows pending used ready new refl refl refl
moves letter keep_untagged rows pending used ready new plain = flag_moves top (codes "-n") (codes "keep-untagged") by_letter rows pending used ready new refl refl refl
moves long keep_untagged rows pending used ready new plain = flag_moves top (codes "--keep-untagged") (codes "keep-untagged") by_long rows pending used ready new refl refl refl
moves letter omit_rs rows pending used ready new plain = flag_moves top (codes "-r") (codes "omit-rs") by_letter rows pending used ready new refl refl refl
moves long omit_rs rows pending used ready new plain = flag_moves top (codes "--omit-rs") (codes "omit-rs") by_long rows pending used ready new refl refl refl
moves letter show_errors rows pending used ready new plain = flag_moves top (codes "-e") (codes "show-errors") by_letter rows pending used ready new refl refl refl
moves long show_errors rows pending used ready new plain = flag_moves top (codes "--show-errors") (codes "show-errors") by_long rows pending used ready new refl refl refl
moves letter stop_on_error rows pending used ready new plain = flag_moves top (codes "-E") (codes "stop-on-error") by_letter rows pending used ready new refl refl refl
moves long stop_on_error rows pending used ready new plain = flag_moves top (codes "--stop-on-error") (codes "stop-on-error") by_long rows pending used ready new refl refl refl
moves letter (area_keys written keys) rows pending used ready new plain = option_moves top (codes "--area-keys") (codes "area-keys") written rows pending used ready new (takes_value top (codes "area-keys") area_option written plain.0) refl refl
moves long (area_keys written keys) rows pending used ready new plain = option_moves top (codes "--area-keys") (codes "area-keys") written rows pending used ready new (takes_value top (codes "area-keys") area_option written plain.0) refl refl
moves letter (linear_keys written keys) rows pending used ready new plain = option_moves top (codes "--linear-keys") (codes "linear-keys") written rows pending used ready new (takes_value top (codes "linear-keys") linear_option written plain.0) refl refl
moves long (linear_keys written keys) rows pending used ready new plain = option_moves top (codes "--linear-keys") (codes "linear-keys") written rows pending used ready new (takes_value top (codes "linear-keys") linear_option written plain.0) refl refl

abbrev pub export_options : Options top
export_options = record {
  Choice = ExportOption;
  name_of = name_of;
  value_of = value_text;
  words_of = option_words;
  HasPlainValue = HasPlainValue;
  moves = moves;
}

-- ---- the file

not_file : (c : ExportOption) → bytes_eq (name_of c) (codes "file") ≡ false
not_file (format f) = refl
not_file (output name) = refl
not_file overwrite = refl
not_file keep_untagged = refl
not_file (ids i) = refl
not_file omit_rs = refl
not_file show_errors = refl
not_file stop_on_error = refl
not_file (area_keys written keys) = refl
not_file (linear_keys written keys) = refl

file_name : IsPositional top 1 (codes "file")
file_name = record {
  one = record { settles = λ word rows. refl; passes = λ word rows. refl };
  goes = λ word rows pending. refl;
  asks = λ rows pending. refl;
}

pub export_file : Named top export_options 1 (codes "file")
export_file = named top 1 (codes "file") file_name export_options not_file

-- the command asks for nothing but the file
pub export_ends_well : EndsWell top [] (codes "file")
export_ends_well = record {
  ready = export_file.ready;
  defaults = (refl, (refl, (refl, (refl, (refl, (refl, (refl, (refl, (refl, (refl, (refl, tt)))))))))));
  checks = λ rows before given. ap (λ (is : Bool). check_kinds false false (not is || false)) given;
}
