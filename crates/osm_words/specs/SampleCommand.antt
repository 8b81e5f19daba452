-- The command `sample` as `clap` is told of it: a number alone.
use Rattle.std.specs.Prelude.{true, codes}
use Rattle.clap.specs.Words.{App, new_app, with_rule}
use Rattle.clap.specs.Simple.{on_top}
use Rattle.osm_words.specs.Arguments.{positional_rule}

-- `-h` and `--help` are words like any other that it doesn't know.
abbrev pub sample_app : App
sample_app = on_top (λ s. record s { disable_help_flag = true }) (with_rule (new_app (codes "sample")) (positional_rule (codes "count")))
