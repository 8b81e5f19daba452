-- What the words of `certify` ask for: what `clap` finds in them, then the ranges of the values, and last that its two names aren't both a dash.
use Rattle.std.specs.Prelude.{ℕ, List, [], Option, Some, None, Result, Err, codes, unwrap_or}
use Rattle.clap.specs.Words.{Row, fault_of, first_of, matches_of}
use Rattle.osm_words.specs.Job.{CertifySettings}
use Rattle.osm_words.specs.CertifyCommand.{certify_app}
use Rattle.osm_words.specs.Parsed.{is_set, unless_refused}
use Rattle.osm_words.specs.Ranges.{ids_said, keys_asked, unless_both_dashes}
use Rattle.osm_objects.specs.declared.area.UniqueId.{UniqueId}
use Rattle.osm_words.specs.declared.fault.WordsFault.{WordsFault}
use Rattle.osm_words.specs.declared.fault.WordsFault.TheVariants.{OutOfRange}

-- The parser asks for a file and a text, so there are always both.
abbrev pub settings_with : Option UniqueId → Option (List (List ℕ)) → Option (List (List ℕ)) → List Row → CertifySettings
settings_with ids area_keys linear_keys rows = record {
  file = unwrap_or (first_of (codes "file") rows) [];
  text = unwrap_or (first_of (codes "text") rows) [];
  keep_untagged = is_set (codes "keep-untagged") rows;
  ids = ids;
  area_keys = area_keys;
  linear_keys = linear_keys;
}

abbrev pub unless_both : CertifySettings → Result CertifySettings WordsFault
unless_both settings = unless_both_dashes settings.file settings.text settings

-- The first value out of its range refuses the words: `u`, `a`, `l` in this order, of the codes 117, 97, 108, and behind them `t`.
abbrev pub in_range : Option (Option UniqueId) → Option (Option (List (List ℕ))) → Option (Option (List (List ℕ))) → List Row →
    Result CertifySettings WordsFault
in_range None area_keys linear_keys rows = Err (OutOfRange 117)
in_range (Some ids) None linear_keys rows = Err (OutOfRange 97)
in_range (Some ids) (Some area_keys) None rows = Err (OutOfRange 108)
in_range (Some ids) (Some area_keys) (Some linear_keys) rows = unless_both (settings_with ids area_keys linear_keys rows)

abbrev pub settings_said : List Row → Result CertifySettings WordsFault
settings_said rows =
    in_range (ids_said (first_of (codes "ids") rows)) (keys_asked (first_of (codes "area-keys") rows))
    (keys_asked (first_of (codes "linear-keys") rows)) rows

-- what the words ask of `certify`, its name first, or why they aren't taken
abbrev pub certify_asked : List (List ℕ) → Result CertifySettings WordsFault
certify_asked words = unless_refused (fault_of certify_app words) (settings_said (matches_of certify_app words))
