use Rattle.std.proofs.Common.{ap, ◌∙◌}
use Rattle.lists.specs.Rising.{count_of}
use Rattle.osm_lattice.specs.Seg.{seg_cmp}
use Rattle.osm_segments.proofs.RepeatSteps.{repeats_alike}
use Rattle.osm_segments.proofs.counts.cancel_of.Goals as goal

pub returns-clause-repeats : goal.returns-clause-repeats
returns-clause-repeats c =
    repeats_alike c.deref.result.now c.args.segs.items c.in_ok-repeats.repeats.items (λ s. ap (count_of seg_cmp s) c.deref.ensures.value ∙ c.in_order-sorted.ensures.counts s) c.in_ok-repeats.ensures
