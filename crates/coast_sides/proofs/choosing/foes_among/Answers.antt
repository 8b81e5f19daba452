-- What the pairs tell is what conflicts.
use Rattle.std.proofs.Common.{List, subst, sym}
use Rattle.std.proofs.lemmas.Result.{IfOk-weaker}
use Rattle.osm_lattice.specs.declared.seg.Seg.{Seg}
use Rattle.coast_sides.specs.ChoiceSteps.{knows}
use Rattle.coast_sides.specs.Segments.{all_segments}
use Rattle.coast_sides.specs.Sorting.{AreConflicts}
use Rattle.coast_sides.proofs.Blocking.{foes_known}
use Rattle.coast_sides.proofs.choosing.foes_among.Goals as goal

pub returns : goal.returns
returns c =
    let segs = all_segments c.args.rings.now in
    let are : AreConflicts segs c.in_ok-pairs.pairs.items = subst (λ (ss : List Seg). AreConflicts ss c.in_ok-pairs.pairs.items) c.in_ok-segs.ensures c.in_ok-pairs.ensures in
    let lent : AreConflicts segs c.deref.result.now = subst (AreConflicts segs) (sym c.deref.ensures.value) are in
    IfOk-weaker c.foes_of.result _ _ (λ foes told. foes_known c.orders_are_exact.ensures.segments c.conflicts_are_symmetric.ensures segs c.deref.result.now (knows foes) lent told) c.foes_of.ensures
