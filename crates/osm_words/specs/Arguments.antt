-- The arguments of commands as `clap` is told of them.
use Rattle.std.specs.Prelude.{ℕ, List, [], ◌∷◌, true, Some, codes}
use Rattle.clap.specs.Words.{App, Rule, Text, new_app, new_rule, with_rule}
use Rattle.clap.specs.Simple.{on_top}
use Rattle.clap.specs.declared.builder.action.ArgAction.TheVariants.{Set, SetTrue}

-- an option with one value, by its letter's code and its long form
abbrev pub option_rule : Text → ℕ → Text → Rule
option_rule name letter long = record (new_rule name) { short = Some letter; long = Some long; action = Some Set }

-- an option with one value and without a letter, which is written by its name
abbrev pub long_option_rule : Text → Rule
long_option_rule name = record (new_rule name) { long = Some name; action = Some Set }

-- an option without a value
abbrev pub flag_rule : Text → ℕ → Text → Rule
flag_rule name letter long = record (new_rule name) { short = Some letter; long = Some long; action = Some SetTrue }

-- an option without a value and without a letter, which is written by its name
abbrev pub long_flag_rule : Text → Rule
long_flag_rule name = record (new_rule name) { long = Some name; action = Some SetTrue }

-- a word that is no option, which has to be there; the first that `clap` is told of takes the first such word
abbrev pub positional_rule : Text → Rule
positional_rule name = record (new_rule name) { required = true; action = Some Set }

abbrev pub file_rule : Rule
file_rule = positional_rule (codes "file")

-- told of several arguments in turn
abbrev pub with_rules : App → List Rule → App
with_rules app [] = app
with_rules app (rule ∷ rules) = with_rules (with_rule app rule) rules

-- The command of this name with these arguments. `-h` and `--help` are words like any other that it doesn't know.
abbrev pub app_of_all : Text → List Rule → App
app_of_all name rules = on_top (λ s. record s { disable_help_flag = true }) (with_rules (new_app name) rules)
