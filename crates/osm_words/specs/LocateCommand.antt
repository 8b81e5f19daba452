-- The command `locate` as `clap` is told of it: five options, a file and points.
use Rattle.std.specs.Prelude.{List, [], ◌∷◌, codes}
use Rattle.clap.specs.Words.{App, Rule}
use Rattle.osm_words.specs.Arguments.{app_of_all, file_rule, flag_rule, long_option_rule, option_rule, positional_rule}

-- in turn: n, the keys of areas, those of lines, o, O, the file, and the points
abbrev pub locate_rules : List Rule
locate_rules =
    flag_rule (codes "keep-untagged") 110 (codes "keep-untagged")
    ∷ long_option_rule (codes "area-keys")
    ∷ long_option_rule (codes "linear-keys")
    ∷ option_rule (codes "output") 111 (codes "output")
    ∷ flag_rule (codes "overwrite") 79 (codes "overwrite")
    ∷ file_rule
    ∷ positional_rule (codes "points")
    ∷ []

-- `-h` and `--help` are words like any other that it doesn't know.
abbrev pub locate_app : App
locate_app = app_of_all (codes "locate") locate_rules
