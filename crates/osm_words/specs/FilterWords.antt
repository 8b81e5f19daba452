-- What the words of `coast-filter` ask for: what `clap` finds in them. No value of theirs has a range.
use Rattle.std.specs.Prelude.{ℕ, List, [], Result, Ok, codes, unwrap_or}
use Rattle.clap.specs.Words.{Row, fault_of, first_of, matches_of}
use Rattle.osm_words.specs.Job.{FilterSettings}
use Rattle.osm_words.specs.FilterCommand.{filter_app}
use Rattle.osm_words.specs.Parsed.{is_set, unless_refused}
use Rattle.osm_words.specs.declared.fault.WordsFault.{WordsFault}

-- The output is `-` where none was found. The parser asks for a file, so there is always one.
abbrev pub settings_said : List Row → FilterSettings
settings_said rows = record {
  file = unwrap_or (first_of (codes "file") rows) [];
  output = unwrap_or (first_of (codes "output") rows) (codes "-");
  overwrite = is_set (codes "overwrite") rows;
}

-- what the words ask of `coast-filter`, its name first, or why they aren't taken
abbrev pub filter_asked : List (List ℕ) → Result FilterSettings WordsFault
filter_asked words = unless_refused (fault_of filter_app words) (Ok (settings_said (matches_of filter_app words)))
