-- The command `certify` as `clap` is told of it: four options, a file and a text.
use Rattle.std.specs.Prelude.{List, [], ◌∷◌, codes}
use Rattle.clap.specs.Words.{App, Rule}
use Rattle.osm_words.specs.Arguments.{app_of_all, file_rule, flag_rule, long_option_rule, option_rule, positional_rule}

-- in turn: n, u, the keys of areas, those of lines, the file, and the text
abbrev pub certify_rules : List Rule
certify_rules =
    flag_rule (codes "keep-untagged") 110 (codes "keep-untagged")
    ∷ option_rule (codes "ids") 117 (codes "add-unique-id")
    ∷ long_option_rule (codes "area-keys")
    ∷ long_option_rule (codes "linear-keys")
    ∷ file_rule
    ∷ positional_rule (codes "text")
    ∷ []

-- `-h` and `--help` are words like any other that it doesn't know.
abbrev pub certify_app : App
certify_app = app_of_all (codes "certify") certify_rules
