use Rattle.std.proofs.Common.{sym, ◌∙◌}
use Rattle.osm_segments.proofs.Sweeps.{clear_if_found}
use Rattle.osm_segments.proofs.sweep.clear.is_clear.Goals as goal

pub returns : goal.returns
returns c told = clear_if_found (λ v. v.items) c.args.segs.now c.in_ok-found.found c.in_ok-found.ensures.others c.in_ok-found.ensures.few (sym c.is_some.ensures ∙ told)
