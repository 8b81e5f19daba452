use Rattle.std.proofs.Common.{List, arith, get_or, subst, sym, take}
use Rattle.plane_lists.specs.Statuses.Leaving.{Remains}
use Rattle.plane_lists.specs.Statuses.Status.{IsStatus}
use Rattle.osm_lattice.specs.declared.seg.Seg.{Seg}
use Rattle.osm_lattice.specs.Loc.{vector_of}
use Rattle.osm_lattice.specs.Seg.{edge_of}
use Rattle.osm_sides.specs.Sweep.{AreDirectedTo, EndsNeverFall, IsSweptFrom, ends_above}
use Rattle.osm_sides.proofs.Statuses.{none-directed, none-swept, remaining, risen}
use Rattle.osm_sides.proofs.directions.direct_each.Goals as goal
use Rattle.lists.proofs.ListsKit.{not-false-out}

pub loop-done-init : goal.loop-done-init
loop-done-init c =
    let segs = c.args.segs.now in let ends = c.leaving-ends.result.items in
    (omega arith, subst (IsSweptFrom segs ends 0 0) (sym c.new-status.ensures) (none-swept segs ends), subst (AreDirectedTo segs 0) (sym c.in_ok-edges.ensures.items) (none-directed segs))

pub leave-next-requires-clause-rise : goal.leave-next-requires-clause-rise
leave-next-requires-clause-rise c = subst EndsNeverFall (sym c.deref.ensures.value) (c.leaving-ends.ensures c.args.segs.now c.requires.ends).rise

pub leave-next-requires-clause-remains : goal.leave-next-requires-clause-remains
leave-next-requires-clause-remains c =
    let segs = c.args.segs.now in let done = c.loop-done.done in let next = c.loop-done.next in let status = c.loop-done.status in
    let y = (get_or segs done c.index-segs-done.result).a.y in
    subst (λ (ends : List Seg). Remains (ends_above y) ends next status status) (sym c.deref.ensures.value)
    (remaining segs c.requires.outline.rising c.requires.outline.clear c.leaving-ends.result.items (c.leaving-ends.ensures segs c.requires.ends) done next status c.loop-done.invariant.1 y)

pub enter_row-requires-clause-status : goal.enter_row-requires-clause-status
enter_row-requires-clause-status c =
    let segs = c.args.segs.now in let done = c.loop-done.done in let next = c.loop-done.next in let status = c.loop-done.status in let s = c.index-segs-done.result in
    let swept = c.loop-done.invariant.1 in
    let up = not-false-out _ (swept.swept.later done s (omega arith) c.loop-done-test.true) in
    subst (IsStatus edge_of (vector_of (get_or segs done s).a) (take done segs)) (sym c.leave-next.ensures.stay)
    (risen segs c.requires.outline.rising c.requires.outline.clear c.leaving-ends.result.items (c.leaving-ends.ensures segs c.requires.ends) done next status swept (vector_of (get_or segs done s).a) up)

pub returns : goal.returns
returns c = subst (λ k. AreDirectedTo c.args.segs.now k c.loop-done.edges.items) (omega (arith, c.loop-done.invariant.0)) c.loop-done.invariant.2
