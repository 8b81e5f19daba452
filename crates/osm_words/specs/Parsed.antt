-- What is read from what `clap` answers to the words of any command.
use Rattle.std.specs.Prelude.{Bool, false, List, [], ◌∷◌, Result, Err, codes}
use Rattle.std.specs.Str.{bytes_eq}
use Rattle.std.specs.Option.{option_map_or}
use Rattle.clap.specs.Words.{Kinds, Row, Text, first_of}
use Rattle.osm_words.specs.declared.fault.WordsFault.{WordsFault}
use Rattle.osm_words.specs.declared.fault.WordsFault.TheVariants.{Refused}

-- a flag is found as the text `true`
abbrev pub is_set : Text → List Row → Bool
is_set name rows = option_map_or (λ word. bytes_eq word (codes "true")) (first_of name rows) false

-- Of a command without subcommands `clap` states one kind at most.
abbrev pub unless_refused : {T : Type 0} → Kinds → Result T WordsFault → Result T WordsFault
unless_refused [] asked = asked
unless_refused (kind ∷ others) asked = Err (Refused kind)
