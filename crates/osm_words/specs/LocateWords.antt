-- What the words of `locate` ask for: what `clap` finds in them, then the ranges of the values, and last that its two names aren't both a dash.
use Rattle.std.specs.Prelude.{ℕ, List, [], Option, Some, None, Result, Err, codes, unwrap_or}
use Rattle.clap.specs.Words.{Row, fault_of, first_of, matches_of}
use Rattle.osm_words.specs.Job.{LocateSettings}
use Rattle.osm_words.specs.LocateCommand.{locate_app}
use Rattle.osm_words.specs.Parsed.{is_set, unless_refused}
use Rattle.osm_words.specs.Ranges.{keys_asked, unless_both_dashes}
use Rattle.osm_words.specs.declared.fault.WordsFault.{WordsFault}
use Rattle.osm_words.specs.declared.fault.WordsFault.TheVariants.{OutOfRange}

-- The output is `-` where none was found. The parser asks for a file and points, so there are always both.
abbrev pub settings_with : Option (List (List ℕ)) → Option (List (List ℕ)) → List Row → LocateSettings
settings_with area_keys linear_keys rows = record {
  file = unwrap_or (first_of (codes "file") rows) [];
  points = unwrap_or (first_of (codes "points") rows) [];
  output = unwrap_or (first_of (codes "output") rows) (codes "-");
  overwrite = is_set (codes "overwrite") rows;
  keep_untagged = is_set (codes "keep-untagged") rows;
  area_keys = area_keys;
  linear_keys = linear_keys;
}

abbrev pub unless_both : LocateSettings → Result LocateSettings WordsFault
unless_both settings = unless_both_dashes settings.file settings.points settings

-- The first value out of its range refuses the words: `a`, `l` in this order, of the codes 97, 108, and behind them `t`.
abbrev pub in_range : Option (Option (List (List ℕ))) → Option (Option (List (List ℕ))) → List Row → Result LocateSettings WordsFault
in_range None linear_keys rows = Err (OutOfRange 97)
in_range (Some area_keys) None rows = Err (OutOfRange 108)
in_range (Some area_keys) (Some linear_keys) rows = unless_both (settings_with area_keys linear_keys rows)

abbrev pub settings_said : List Row → Result LocateSettings WordsFault
settings_said rows =
    in_range (keys_asked (first_of (codes "area-keys") rows)) (keys_asked (first_of (codes "linear-keys") rows)) rows

-- what the words ask of `locate`, its name first, or why they aren't taken
abbrev pub locate_asked : List (List ℕ) → Result LocateSettings WordsFault
locate_asked words = unless_refused (fault_of locate_app words) (settings_said (matches_of locate_app words))
