-- One end is at most as high, and the other isn't.
use Rattle.std.proofs.Common.{ap, not, sym, ◌∙◌}
use mathlib.Core.Bool.{beq}
use Rattle.osm_geom.proofs.Spans.{not-same, reaches, spans_is}
use Rattle.osm_geom.proofs.span.spans_height.Goals as goal

pub returns : goal.returns
returns c =
    let e = c.args.e.now in let at = c.args.at.now in
    ap (λ b. not (beq b c.is_at_most_as_high-2.result)) c.is_at_most_as_high.ensures
    ∙ (ap (λ b. not (beq (reaches e.from at) b)) c.is_at_most_as_high-2.ensures
    ∙ (not-same (reaches e.from at) (reaches e.to at) ∙ sym (spans_is e at)))
