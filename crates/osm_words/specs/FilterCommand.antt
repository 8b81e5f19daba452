-- The command `coast-filter` as `clap` is told of it: two options and a file.
use Rattle.std.specs.Prelude.{List, [], ◌∷◌, codes}
use Rattle.clap.specs.Words.{App, Rule}
use Rattle.osm_words.specs.Arguments.{app_of_all, file_rule, flag_rule, option_rule}

-- in turn: o, O, and the file
abbrev pub filter_rules : List Rule
filter_rules =
    option_rule (codes "output") 111 (codes "output")
    ∷ flag_rule (codes "overwrite") 79 (codes "overwrite")
    ∷ file_rule
    ∷ []

-- `-h` and `--help` are words like any other that it doesn't know.
abbrev pub filter_app : App
filter_app = app_of_all (codes "coast-filter") filter_rules
