-- Plain words of `certify` are taken, and give what they say. No public contract cites it.
use Rattle.std.proofs.Common.{◌≡◌, ◌++◌, ◌∙◌, Bool, false, List, [], ◌∷◌, Option, Some, Ok, Err, codes, if◌then◌else◌, refl, ap, ap₂}
use Rattle.std.specs.Prelude.{option_map, unwrap_or}
use Rattle.clap.specs.Words.{Row, Text, first_of, matches_of}
use Rattle.osm_words.specs.CertifyCommand.{certify_app}
use Rattle.osm_words.specs.CertifyWords.{certify_asked, in_range, settings_said, settings_with, unless_both}
use Rattle.osm_words.specs.Job.{CertifySettings, certify}
use Rattle.osm_words.specs.Parsed.{is_set, unless_refused}
use Rattle.osm_words.specs.Ranges.{are_both_dashes, ids_said, keys_asked}
use Rattle.osm_words.specs.Words.{as_job, job_asked}
use Rattle.osm_words.specs.PlainWords.{Form, HavePlainValues, plain_words_of_two}
use Rattle.osm_words.specs.PlainCertify.{ArePlainCertify, CertifyOption, HasPlainValue, keep_untagged, ids, area_keys, linear_keys}
use Rattle.osm_words.specs.PlainCertify.{certify_words, name_of, option_words, said_certify, with_option}
use Rattle.osm_words.specs.declared.fault.WordsFault.TheVariants.{OutOfRange}
use Rattle.osm_objects.specs.declared.area.UniqueId.{UniqueId}
use Rattle.osm_words.proofs.Walk.{Ends, ends_of_two, no_row, row_for, rows_with}
use Rattle.osm_words.proofs.Taken.{given, new_given, taken, value_in}
use Rattle.osm_words.proofs.PlainAnswers.{not_both_dashes, ids_read, SaysFlag, SaysText, flag_read, text_read}
use Rattle.osm_words.proofs.CertifyOptions.{certify_ends_well, certify_file, certify_options, certify_text, top, value_text}

abbrev option_rows : List (Form × CertifyOption) → List Row
option_rows options = rows_with top certify_options options

-- the rows of all words
abbrev all_rows : List (Form × CertifyOption) → Text → Text → List Row
all_rows options file text = (option_rows options ++ row_for (codes "file") file ∷ []) ++ row_for (codes "text") text ∷ []

-- ---- what the words say

record Say (rows : List Row) (s : CertifySettings) : Type 0 where
  file : SaysText top rows (codes "file") [] s.file
  text : SaysText top rows (codes "text") [] s.text
  keep_untagged : SaysFlag top rows (codes "keep-untagged") s.keep_untagged
  ids : ids_said (value_in top (codes "ids") rows) ≡ Some s.ids
  area_keys : keys_asked (value_in top (codes "area-keys") rows) ≡ Some s.area_keys
  linear_keys : keys_asked (value_in top (codes "linear-keys") rows) ≡ Some s.linear_keys
  parted : are_both_dashes s.file s.text ≡ false

say_more : (c : CertifyOption) (rows : List Row) (s : CertifySettings) → HasPlainValue c → Say rows s
    → Say (row_for (name_of c) (value_text c) ∷ rows) (with_option c s)
say_more keep_untagged rows s plain more = record {
  file = more.file;
  text = more.text;
  keep_untagged = refl;
  ids = more.ids;
  area_keys = more.area_keys;
  linear_keys = more.linear_keys;
  parted = more.parted;
}
say_more (ids i) rows s plain more = record {
  file = more.file;
  text = more.text;
  keep_untagged = more.keep_untagged;
  ids = ids_read i;
  area_keys = more.area_keys;
  linear_keys = more.linear_keys;
  parted = more.parted;
}
say_more (area_keys written keys) rows s plain more = record {
  file = more.file;
  text = more.text;
  keep_untagged = more.keep_untagged;
  ids = more.ids;
  area_keys = ap (option_map (λ (ks : List Text). Some ks)) plain.1;
  linear_keys = more.linear_keys;
  parted = more.parted;
}
say_more (linear_keys written keys) rows s plain more = record {
  file = more.file;
  text = more.text;
  keep_untagged = more.keep_untagged;
  ids = more.ids;
  area_keys = more.area_keys;
  linear_keys = ap (option_map (λ (ks : List Text). Some ks)) plain.1;
  parted = more.parted;
}

say : (options : List (Form × CertifyOption)) (file text : Text) → HavePlainValues HasPlainValue options → are_both_dashes file text ≡ false
    → Say (all_rows options file text) (said_certify options file text)
say [] file text plain parted = record {
  file = refl;
  text = refl;
  keep_untagged = refl;
  ids = refl;
  area_keys = refl;
  linear_keys = refl;
  parted = parted;
}
say (option ∷ others) file text plain parted =
    say_more option.1 (all_rows others file text) (said_certify others file text) plain.0 (say others file text plain.1 parted)

-- rows in which each name has the value of `found` give what `found` says
read_by : (rows found : List Row) (s : CertifySettings) → Say found s → ((name : Text) → first_of name rows ≡ value_in top name found)
    → settings_said rows ≡ Ok s
read_by rows found s says same =
    let file_is : unwrap_or (first_of (codes "file") rows) [] ≡ s.file = text_read top rows found same (codes "file") [] s.file says.file in
    let text_is : unwrap_or (first_of (codes "text") rows) [] ≡ s.text = text_read top rows found same (codes "text") [] s.text says.text in
    let keep_untagged_is : is_set (codes "keep-untagged") rows ≡ s.keep_untagged = flag_read top rows found same (codes "keep-untagged") s.keep_untagged says.keep_untagged in
    let ids_is : ids_said (first_of (codes "ids") rows) ≡ Some s.ids = ap ids_said (same (codes "ids")) ∙ says.ids in
    let area_is : keys_asked (first_of (codes "area-keys") rows) ≡ Some s.area_keys = ap keys_asked (same (codes "area-keys")) ∙ says.area_keys in
    let linear_is : keys_asked (first_of (codes "linear-keys") rows) ≡ Some s.linear_keys = ap keys_asked (same (codes "linear-keys")) ∙ says.linear_keys in
    let all : settings_with s.ids s.area_keys s.linear_keys rows ≡ s = (λ i. record {
      file = file_is i;
      text = text_is i;
      keep_untagged = keep_untagged_is i;
      ids = s.ids;
      area_keys = s.area_keys;
      linear_keys = s.linear_keys;
    }) in
    let taken_as_one : unless_both s ≡ Ok s = ap (λ (both : Bool). if both then Err (OutOfRange 116) else Ok s) says.parted in
    let linear = keys_asked (first_of (codes "linear-keys") rows) in
    ap₂ (λ (i : Option (Option UniqueId)) (a : Option (Option (List Text))). in_range i a linear rows) ids_is area_is
    ∙ ap (λ (l : Option (Option (List Text))). in_range (Some s.ids) (Some s.area_keys) l rows) linear_is ∙ ap unless_both all ∙ taken_as_one

-- plain words of `certify` are taken with what they say
plain_certify : (options : List (Form × CertifyOption)) (file text : Text) → ArePlainCertify options file text
    → certify_asked (certify_words options file text) ≡ Ok (said_certify options file text)
plain_certify options file text plain =
    let words = plain_words_of_two option_words options file text in
    let used = option_rows options ++ row_for (codes "file") file ∷ [] in
    let end : Ends top (codes "text") words used text =
    ends_of_two top certify_options (codes "file") (codes "text") certify_file certify_text refl options file text
    plain.once plain.values plain.file_name plain.second_name in
    let file_given = new_given (codes "file") file (option_rows options) (no_row top certify_options (codes "file") certify_file.no_option options) in
    let rows = matches_of certify_app (certify_words options file text) in
    let found : settings_said rows ≡ Ok (said_certify options file text) =
    read_by rows (all_rows options file text) (said_certify options file text)
    (say options file text plain.values (not_both_dashes file text plain.not_both))
    (given top (codes "file" ∷ []) (codes "text") certify_ends_well words used text end) in
    ap₂ unless_refused (taken top (codes "file" ∷ []) (codes "text") certify_ends_well words used text (file_given, tt) end) found

pub plain_certify_asked : (options : List (Form × CertifyOption)) (file text : Text) → ArePlainCertify options file text
    → job_asked (certify_words options file text) ≡ Ok (certify (said_certify options file text))
plain_certify_asked options file text plain = ap (as_job certify) (plain_certify options file text plain)
