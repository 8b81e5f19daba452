use Rattle.std.proofs.Common.{◌≡◌, All, false, map, take}
use Rattle.clap.specs.Words.{rule_of}
use Rattle.clap.specs.declared.builder.arg.Arg.{Arg}
use Rattle.osm_words.specs.Told.{rule_told}
use Rattle.osm_words.proofs.arguments.arguments_of.Given as goal

abbrev pub invariant-loop-of : goal.invariant-loop-of
invariant-loop-of l = record {
  rules : map (λ (a : Arg). rule_of a) l.arguments.items ≡ map rule_told (take l.of-index l.all);
  local : All (λ (a : Arg). a.global ≡ false) l.arguments.items;
}
