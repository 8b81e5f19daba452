-- A command told of several arguments in turn.
use Rattle.std.proofs.Common.{◌≡◌, ◌∙◌, ap, sym, List, [], ◌∷◌, All, false, map, arith, suc}
use Rattle.clap.specs.Words.{AddsArg, AddsInTurn, App, app_of, rule_of}
use Rattle.clap.specs.declared.builder.command.Command.{Command}
use Rattle.clap.specs.declared.builder.arg.Arg.{Arg}
use Rattle.osm_words.specs.Arguments.{with_rules}

pub chain_shape : (xs : List Arg) (c d : Command) → AddsInTurn AddsArg c xs d → All (λ (a : Arg). a.global ≡ false) xs
    → app_of d ≡ with_rules (app_of c) (map (λ (a : Arg). rule_of a) xs)
chain_shape [] c d h local = ap app_of (sym h)
chain_shape (a ∷ xs) c d h local =
    chain_shape xs h.0 d h.2 (λ k e l. local (suc k) e (omega arith))
    ∙ ap (λ (app : App). with_rules app (map (λ (a : Arg). rule_of a) xs)) (h.1.shape (local 0 a (omega arith)))
