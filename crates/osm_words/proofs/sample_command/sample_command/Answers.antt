use Rattle.std.proofs.Common.{ap, ap₂, codes, true, ◌≡◌, ◌∙◌}
use Rattle.clap.specs.Words.{App, app_of, new_app, with_rule}
use Rattle.clap.specs.Simple.{app_of_fields, on_top}
use Rattle.osm_words.specs.Arguments.{positional_rule}
use Rattle.osm_words.proofs.sample_command.sample_command.Goals as goal

pub returns : goal.returns
returns c =
    let all : app_of c.in_ok-command.command ≡ with_rule (new_app (codes "sample")) (positional_rule (codes "count")) =
    c.in_ok-command.ensures.shape c.positional.ensures.local ∙ ap₂ with_rule c.new.ensures.app c.positional.ensures.rule in
    ap app_of_fields c.disable_help_flag.ensures ∙ ap (λ (a : App). on_top (λ s. record s { disable_help_flag = true }) a) all
