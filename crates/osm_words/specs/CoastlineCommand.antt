-- The command `coastline` as `clap` is told of it: seven options and a file.
use Rattle.std.specs.Prelude.{List, [], ◌∷◌, codes}
use Rattle.clap.specs.Words.{App, Rule}
use Rattle.osm_words.specs.Arguments.{app_of_all, file_rule, flag_rule, long_flag_rule, long_option_rule, option_rule}

-- in turn: c, m, b, p, the output, f, cut-crossings, and the file
abbrev pub coastline_rules : List Rule
coastline_rules =
    option_rule (codes "close-distance") 99 (codes "close-distance")
    ∷ option_rule (codes "max-points") 109 (codes "max-points")
    ∷ option_rule (codes "bbox-overlap") 98 (codes "bbox-overlap")
    ∷ option_rule (codes "polygons") 112 (codes "output-polygons")
    ∷ long_option_rule (codes "output")
    ∷ flag_rule (codes "overwrite") 102 (codes "overwrite")
    ∷ long_flag_rule (codes "cut-crossings")
    ∷ file_rule
    ∷ []

-- `-h` and `--help` are words like any other that it doesn't know.
abbrev pub coastline_app : App
coastline_app = app_of_all (codes "coastline") coastline_rules
