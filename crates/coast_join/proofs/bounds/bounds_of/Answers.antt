-- One more site, in wider bounds.
use Rattle.std.proofs.Common.{take, subst}
use Rattle.std.proofs.lemmas.List.Elements.{All-more, All-weaker}
use Rattle.coast_join.specs.SiteTrees.{IsInBounds}
use Rattle.coast_join.proofs.bounds.bounds_of.Goals as goal

pub loop-site-preserved : goal.loop-site-preserved
loop-site-preserved c =
    let i = c.loop-site.site-index in
    let sites = c.args.sites.now in
    let wider = c.widened-bounds.result in
    let here = c.site-item.result in
    All-more (IsInBounds wider) sites i here c.loop-site-test.true
    (All-weaker (IsInBounds c.loop-site.bounds) (IsInBounds wider) (λ s h. c.widened-bounds.ensures.others s h) (take i sites) c.loop-site.invariant)
    (subst (IsInBounds wider) c.site-item.is c.widened-bounds.ensures.here)
