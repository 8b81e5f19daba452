-- The command `export` as `clap` is told of it: ten options and a file.
use Rattle.std.specs.Prelude.{List, [], ◌∷◌, codes}
use Rattle.clap.specs.Words.{App, Rule}
use Rattle.osm_words.specs.Arguments.{app_of_all, file_rule, flag_rule, long_option_rule, option_rule}

-- in turn: f, o, O, n, u, r, e, E, the keys of areas, those of lines, and the file
abbrev pub export_rules : List Rule
export_rules =
    option_rule (codes "format") 102 (codes "output-format")
    ∷ option_rule (codes "output") 111 (codes "output")
    ∷ flag_rule (codes "overwrite") 79 (codes "overwrite")
    ∷ flag_rule (codes "keep-untagged") 110 (codes "keep-untagged")
    ∷ option_rule (codes "ids") 117 (codes "add-unique-id")
    ∷ flag_rule (codes "omit-rs") 114 (codes "omit-rs")
    ∷ flag_rule (codes "show-errors") 101 (codes "show-errors")
    ∷ flag_rule (codes "stop-on-error") 69 (codes "stop-on-error")
    ∷ long_option_rule (codes "area-keys")
    ∷ long_option_rule (codes "linear-keys")
    ∷ file_rule
    ∷ []

-- `-h` and `--help` are words like any other that it doesn't know.
abbrev pub export_app : App
export_app = app_of_all (codes "export") export_rules
