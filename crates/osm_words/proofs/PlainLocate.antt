-- Plain words of `locate` are taken, and give what they say. No public contract cites it.
use Rattle.std.proofs.Common.{◌≡◌, ◌++◌, ◌∙◌, Bool, false, List, [], ◌∷◌, Option, Some, Ok, Err, codes, if◌then◌else◌, refl, ap, ap₂}
use Rattle.std.specs.Prelude.{option_map, unwrap_or}
use Rattle.clap.specs.Words.{Row, Text, first_of, matches_of}
use Rattle.osm_words.specs.LocateCommand.{locate_app}
use Rattle.osm_words.specs.LocateWords.{locate_asked, in_range, settings_said, settings_with, unless_both}
use Rattle.osm_words.specs.Job.{LocateSettings, locate}
use Rattle.osm_words.specs.Parsed.{is_set, unless_refused}
use Rattle.osm_words.specs.Ranges.{are_both_dashes, keys_asked}
use Rattle.osm_words.specs.Words.{as_job, job_asked}
use Rattle.osm_words.specs.PlainWords.{Form, HavePlainValues, plain_words_of_two}
use Rattle.osm_words.specs.PlainLocate.{ArePlainLocate, LocateOption, HasPlainValue, keep_untagged, area_keys, linear_keys, output, overwrite}
use Rattle.osm_words.specs.PlainLocate.{locate_words, name_of, option_words, said_locate, with_option}
use Rattle.osm_words.specs.declared.fault.WordsFault.TheVariants.{OutOfRange}
use Rattle.osm_words.proofs.Walk.{Ends, ends_of_two, no_row, row_for, rows_with}
use Rattle.osm_words.proofs.Taken.{given, new_given, taken, value_in}
use Rattle.osm_words.proofs.PlainAnswers.{not_both_dashes, SaysFlag, SaysText, flag_read, text_read}
use Rattle.osm_words.proofs.LocateOptions.{locate_ends_well, locate_file, locate_options, locate_points, top, value_text}

abbrev option_rows : List (Form × LocateOption) → List Row
option_rows options = rows_with top locate_options options

-- the rows of all words
abbrev all_rows : List (Form × LocateOption) → Text → Text → List Row
all_rows options file points = (option_rows options ++ row_for (codes "file") file ∷ []) ++ row_for (codes "points") points ∷ []

-- ---- what the words say

record Say (rows : List Row) (s : LocateSettings) : Type 0 where
  file : SaysText top rows (codes "file") [] s.file
  points : SaysText top rows (codes "points") [] s.points
  output : SaysText top rows (codes "output") (codes "-") s.output
  overwrite : SaysFlag top rows (codes "overwrite") s.overwrite
  keep_untagged : SaysFlag top rows (codes "keep-untagged") s.keep_untagged
  area_keys : keys_asked (value_in top (codes "area-keys") rows) ≡ Some s.area_keys
  linear_keys : keys_asked (value_in top (codes "linear-keys") rows) ≡ Some s.linear_keys
  parted : are_both_dashes s.file s.points ≡ false

say_more : (c : LocateOption) (rows : List Row) (s : LocateSettings) → HasPlainValue c → Say rows s
    → Say (row_for (name_of c) (value_text c) ∷ rows) (with_option c s)
say_more keep_untagged rows s plain more = record {
  file = more.file;
  points = more.points;
  output = more.output;
  overwrite = more.overwrite;
  keep_untagged = refl;
  area_keys = more.area_keys;
  linear_keys = more.linear_keys;
  parted = more.parted;
}
say_more (area_keys written keys) rows s plain more = record {
  file = more.file;
  points = more.points;
  output = more.output;
  overwrite = more.overwrite;
  keep_untagged = more.keep_untagged;
  area_keys = ap (option_map (λ (ks : List Text). Some ks)) plain.1;
  linear_keys = more.linear_keys;
  parted = more.parted;
}
say_more (linear_keys written keys) rows s plain more = record {
  file = more.file;
  points = more.points;
  output = more.output;
  overwrite = more.overwrite;
  keep_untagged = more.keep_untagged;
  area_keys = more.area_keys;
  linear_keys = ap (option_map (λ (ks : List Text). Some ks)) plain.1;
  parted = more.parted;
}
say_more (output name) rows s plain more = record {
  file = more.file;
  points = more.points;
  output = refl;
  overwrite = more.overwrite;
  keep_untagged = more.keep_untagged;
  area_keys = more.area_keys;
  linear_keys = more.linear_keys;
  parted = more.parted;
}
say_more overwrite rows s plain more = record {
  file = more.file;
  points = more.points;
  output = more.output;
  overwrite = refl;
  keep_untagged = more.keep_untagged;
  area_keys = more.area_keys;
  linear_keys = more.linear_keys;
  parted = more.parted;
}

say : (options : List (Form × LocateOption)) (file points : Text) → HavePlainValues HasPlainValue options → are_both_dashes file points ≡ false
    → Say (all_rows options file points) (said_locate options file points)
say [] file points plain parted = record {
  file = refl;
  points = refl;
  output = refl;
  overwrite = refl;
  keep_untagged = refl;
  area_keys = refl;
  linear_keys = refl;
  parted = parted;
}
say (option ∷ others) file points plain parted =
    say_more option.1 (all_rows others file points) (said_locate others file points) plain.0 (say others file points plain.1 parted)

-- rows in which each name has the value of `found` give what `found` says
read_by : (rows found : List Row) (s : LocateSettings) → Say found s → ((name : Text) → first_of name rows ≡ value_in top name found)
    → settings_said rows ≡ Ok s
read_by rows found s says same =
    let file_is : unwrap_or (first_of (codes "file") rows) [] ≡ s.file = text_read top rows found same (codes "file") [] s.file says.file in
    let points_is : unwrap_or (first_of (codes "points") rows) [] ≡ s.points = text_read top rows found same (codes "points") [] s.points says.points in
    let output_is : unwrap_or (first_of (codes "output") rows) (codes "-") ≡ s.output = text_read top rows found same (codes "output") (codes "-") s.output says.output in
    let overwrite_is : is_set (codes "overwrite") rows ≡ s.overwrite = flag_read top rows found same (codes "overwrite") s.overwrite says.overwrite in
    let keep_untagged_is : is_set (codes "keep-untagged") rows ≡ s.keep_untagged = flag_read top rows found same (codes "keep-untagged") s.keep_untagged says.keep_untagged in
    let area_is : keys_asked (first_of (codes "area-keys") rows) ≡ Some s.area_keys = ap keys_asked (same (codes "area-keys")) ∙ says.area_keys in
    let linear_is : keys_asked (first_of (codes "linear-keys") rows) ≡ Some s.linear_keys = ap keys_asked (same (codes "linear-keys")) ∙ says.linear_keys in
    let all : settings_with s.area_keys s.linear_keys rows ≡ s = (λ i. record {
      file = file_is i;
      points = points_is i;
      output = output_is i;
      overwrite = overwrite_is i;
      keep_untagged = keep_untagged_is i;
      area_keys = s.area_keys;
      linear_keys = s.linear_keys;
    }) in
    let taken_as_one : unless_both s ≡ Ok s = ap (λ (both : Bool). if both then Err (OutOfRange 116) else Ok s) says.parted in
    ap₂ (λ (a l : Option (Option (List Text))). in_range a l rows) area_is linear_is ∙ ap unless_both all ∙ taken_as_one

-- plain words of `locate` are taken with what they say
plain_locate : (options : List (Form × LocateOption)) (file points : Text) → ArePlainLocate options file points
    → locate_asked (locate_words options file points) ≡ Ok (said_locate options file points)
plain_locate options file points plain =
    let words = plain_words_of_two option_words options file points in
    let used = option_rows options ++ row_for (codes "file") file ∷ [] in
    let end : Ends top (codes "points") words used points =
    ends_of_two top locate_options (codes "file") (codes "points") locate_file locate_points refl options file points
    plain.once plain.values plain.file_name plain.second_name in
    let file_given = new_given (codes "file") file (option_rows options) (no_row top locate_options (codes "file") locate_file.no_option options) in
    let rows = matches_of locate_app (locate_words options file points) in
    let found : settings_said rows ≡ Ok (said_locate options file points) =
    read_by rows (all_rows options file points) (said_locate options file points)
    (say options file points plain.values (not_both_dashes file points plain.not_both))
    (given top (codes "file" ∷ []) (codes "points") locate_ends_well words used points end) in
    ap₂ unless_refused (taken top (codes "file" ∷ []) (codes "points") locate_ends_well words used points (file_given, tt) end) found

pub plain_locate_asked : (options : List (Form × LocateOption)) (file points : Text) → ArePlainLocate options file points
    → job_asked (locate_words options file points) ≡ Ok (locate (said_locate options file points))
plain_locate_asked options file points plain = ap (as_job locate) (plain_locate options file points plain)
