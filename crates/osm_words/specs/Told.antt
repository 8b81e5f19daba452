-- What `clap` is told of an argument. Only private clauses cite this.
use Rattle.clap.specs.Words.{Rule}
use Rattle.osm_words.specs.Arguments.{flag_rule, long_flag_rule, long_option_rule, option_rule, positional_rule}
use Rattle.osm_words.specs.declared.arguments.Argument.{Argument}
use Rattle.osm_words.specs.declared.arguments.Argument.TheVariants.{Valued, LongValued, Flag, LongFlag, Positional}

abbrev pub rule_told : Argument → Rule
rule_told (Valued name letter long) = option_rule name.now letter long.now
rule_told (LongValued name) = long_option_rule name.now
rule_told (Flag name letter long) = flag_rule name.now letter long.now
rule_told (LongFlag name) = long_flag_rule name.now
rule_told (Positional name) = positional_rule name.now
