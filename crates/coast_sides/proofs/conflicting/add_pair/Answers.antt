-- Both segments of the pair are there now.
use Rattle.std.proofs.Common.{◌∙◌, cond, true, ap}
use Rattle.std.specs.BTreeSet.{contains}
use Rattle.std.specs.Ordering.{is_eq}
use Rattle.osm_lattice.specs.Seg.{seg_cmp}
use Rattle.coast_sides.proofs.ListSteps.{both_turned}
use Rattle.coast_sides.proofs.conflicting.add_pair.Goals as goal

pub returns : goal.returns
returns c = λ s.
    c.in_ok-insert-2.ensures.updates.0 s
    ∙ (ap (cond (is_eq (seg_cmp c.args.pair.now.second s)) true) (c.in_ok-insert.ensures.updates.0 s)
    ∙ both_turned (is_eq (seg_cmp c.args.pair.now.first s)) (is_eq (seg_cmp c.args.pair.now.second s)) (contains seg_cmp c.args.segs.now s))
