-- A command is told of its arguments one after the other.
use Rattle.std.proofs.Common.{ap, true, ◌≡◌, ◌∙◌, map}
use Rattle.clap.specs.Words.{App, app_of, new_app, rule_of}
use Rattle.clap.specs.Simple.{app_of_fields, on_top}
use Rattle.clap.specs.declared.builder.arg.Arg.{Arg}
use Rattle.osm_words.specs.Arguments.{with_rules}
use Rattle.osm_words.proofs.Chains.{chain_shape}
use Rattle.osm_words.proofs.arguments.command_with.Goals as goal

pub returns : goal.returns
returns c =
    let rules = map (λ (a : Arg). rule_of a) c.args.arguments.items in
    let all : app_of c.in_ok-command.command ≡ with_rules (new_app c.args.name.now) rules =
    chain_shape c.args.arguments.items c.new.result c.in_ok-command.command c.in_ok-command.ensures c.requires
    ∙ ap (λ (app : App). with_rules app rules) c.new.ensures.app in
    ap app_of_fields c.disable_help_flag.ensures ∙ ap (λ (a : App). on_top (λ s. record s { disable_help_flag = true }) a) all
