-- Plain words of `coast-filter` are taken, and give what they say. No public contract cites it.
use Rattle.std.proofs.Common.{◌≡◌, ◌++◌, List, [], ◌∷◌, Ok, codes, refl, ap, ap₂}
use Rattle.std.specs.Prelude.{unwrap_or}
use Rattle.clap.specs.Words.{Row, Text, first_of, matches_of}
use Rattle.osm_words.specs.FilterCommand.{filter_app}
use Rattle.osm_words.specs.FilterWords.{filter_asked, settings_said}
use Rattle.osm_words.specs.Job.{FilterSettings, filter}
use Rattle.osm_words.specs.Parsed.{is_set, unless_refused}
use Rattle.osm_words.specs.Words.{as_job, job_asked}
use Rattle.osm_words.specs.PlainWords.{Form, plain_words}
use Rattle.osm_words.specs.PlainFilter.{ArePlainFilter, FilterOption, filter_words, output, overwrite, name_of, option_words, said_filter, with_option}
use Rattle.osm_words.proofs.Walk.{Ends, ends, row_for, rows_with}
use Rattle.osm_words.proofs.Taken.{given, taken, value_in}
use Rattle.osm_words.proofs.PlainAnswers.{SaysFlag, SaysText, flag_read, text_read}
use Rattle.osm_words.proofs.FilterOptions.{filter_ends_well, filter_file, filter_options, top, value_text}

abbrev option_rows : List (Form × FilterOption) → List Row
option_rows options = rows_with top filter_options options

-- ---- what the words say

record Say (rows : List Row) (s : FilterSettings) : Type 0 where
  output : SaysText top rows (codes "output") (codes "-") s.output
  overwrite : SaysFlag top rows (codes "overwrite") s.overwrite
  file : SaysText top rows (codes "file") [] s.file

say_more : (c : FilterOption) (rows : List Row) (s : FilterSettings) → Say rows s → Say (row_for (name_of c) (value_text c) ∷ rows) (with_option c s)
say_more (output name) rows s more = record { output = refl; overwrite = more.overwrite; file = more.file }
say_more overwrite rows s more = record { output = more.output; overwrite = refl; file = more.file }

say : (options : List (Form × FilterOption)) (file : Text) → Say (option_rows options ++ row_for (codes "file") file ∷ []) (said_filter options file)
say [] file = record { output = refl; overwrite = refl; file = refl }
say (option ∷ others) file = say_more option.1 (option_rows others ++ row_for (codes "file") file ∷ []) (said_filter others file) (say others file)

-- rows in which each name has the value of `found` give what `found` says
read_by : (rows found : List Row) (s : FilterSettings) → Say found s → ((name : Text) → first_of name rows ≡ value_in top name found) → settings_said rows ≡ s
read_by rows found s says same =
    let output_is : unwrap_or (first_of (codes "output") rows) (codes "-") ≡ s.output = text_read top rows found same (codes "output") (codes "-") s.output says.output in
    let overwrite_is : is_set (codes "overwrite") rows ≡ s.overwrite = flag_read top rows found same (codes "overwrite") s.overwrite says.overwrite in
    let file_is : unwrap_or (first_of (codes "file") rows) [] ≡ s.file = text_read top rows found same (codes "file") [] s.file says.file in
    λ i. record { file = file_is i; output = output_is i; overwrite = overwrite_is i }

-- plain words of `coast-filter` are taken with what they say
plain_filter : (options : List (Form × FilterOption)) (file : Text) → ArePlainFilter options file
    → filter_asked (filter_words options file) ≡ Ok (said_filter options file)
plain_filter options file plain =
    let words = plain_words option_words options file in
    let used = option_rows options in
    let end : Ends top (codes "file") words used file = ends top filter_options (codes "file") filter_file options file plain.once plain.values plain.file_name in
    let rows = matches_of filter_app (filter_words options file) in
    let found : settings_said rows ≡ said_filter options file =
    read_by rows (used ++ row_for (codes "file") file ∷ []) (said_filter options file) (say options file)
    (given top [] (codes "file") filter_ends_well words used file end) in
    ap₂ unless_refused (taken top [] (codes "file") filter_ends_well words used file tt end) (ap Ok found)

pub plain_filter_asked : (options : List (Form × FilterOption)) (file : Text) → ArePlainFilter options file
    → job_asked (filter_words options file) ≡ Ok (filter (said_filter options file))
plain_filter_asked options file plain = ap (as_job filter) (plain_filter options file plain)
