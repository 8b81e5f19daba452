-- What the words of `sample` ask for: what `clap` finds in them, and then the range of the number.
use Rattle.std.specs.Prelude.{ℕ, ◌&&◌, nat_le, List, [], length, Option, Some, None, Result, Ok, Err, codes, if◌then◌else◌, option_and_then, unwrap_or}
use Rattle.clap.specs.Words.{Row, fault_of, first_of, matches_of}
use Rattle.osm_words.specs.Number.{number_named}
use Rattle.osm_words.specs.Parsed.{unless_refused}
use Rattle.osm_words.specs.SampleCommand.{sample_app}
use Rattle.osm_words.specs.declared.fault.WordsFault.{WordsFault}
use Rattle.osm_words.specs.declared.fault.WordsFault.TheVariants.{OutOfRange}

-- from 1 to 100
abbrev pub where_count : ℕ → Option ℕ
where_count count = if nat_le 1 count && nat_le count 100 then Some count else None

-- the number of cells that one to three digits write; zeros at their front are digits like others
abbrev pub count_named : List ℕ → Option ℕ
count_named written = if nat_le (length written) 3 then option_and_then where_count (number_named written) else None

-- A number out of its range refuses the words: it is named `N`, of the code 78.
abbrev pub in_range : Option ℕ → Result ℕ WordsFault
in_range None = Err (OutOfRange 78)
in_range (Some count) = Ok count

-- The parser asks for a number, so there is always a word for it.
abbrev pub count_said : List Row → Result ℕ WordsFault
count_said rows = in_range (count_named (unwrap_or (first_of (codes "count") rows) []))

-- what the words ask of `sample`, its name first, or why they aren't taken
abbrev pub sample_asked : List (List ℕ) → Result ℕ WordsFault
sample_asked words = unless_refused (fault_of sample_app words) (count_said (matches_of sample_app words))
