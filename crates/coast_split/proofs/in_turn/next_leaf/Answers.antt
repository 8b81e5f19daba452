-- Each low half has the leaves that its list had, and the list that isn't cut is the first of them.
use Rattle.std.proofs.Common.{◌∷◌}
use Rattle.coast_split.specs.Batches.{batched_edges}
use Rattle.coast_split.specs.SplitTree.{leaf_of}
use Rattle.coast_split.specs.Waiting.{lists_in}
use Rattle.coast_split.proofs.LeavesLeft.{same-next, same-trans, whole-next}
use Rattle.coast_split.proofs.WaitingLists.{popped, popped-same}
use Rattle.coast_split.proofs.in_turn.next_leaf.Goals as goal

pub loop-middle-init : goal.loop-middle-init
loop-middle-init c =
    let whole = c.args.whole.now in let s = c.args.settings.now in let e = c.in-Some.ensures.items in
    let p = popped whole c.args.waiting.now.items c.pop.new.self.items c.in-Some.list e c.requires in
    (p.0, p.1, popped-same whole s.most_points s.overlap c.args.waiting.now.items c.pop.new.self.items c.in-Some.list e)

pub loop-middle-preserved : goal.loop-middle-preserved
loop-middle-preserved c =
    let whole = c.args.whole.now in let s = c.args.settings.now in let i = c.loop-middle.invariant in let k = c.in_ok-list.ensures in (
      k.waiting,
      k.low,
      same-trans s.most_points s.overlap (lists_in whole c.args.waiting.now.items) (batched_edges whole c.loop-middle.list ∷ lists_in whole c.loop-middle.waiting.items)
          (batched_edges whole c.in_ok-list.list ∷ lists_in whole c.cut_off.new.waiting.items) i.2 k.cut.same,
    )

pub returns-clause-leaf : goal.returns-clause-leaf
returns-clause-leaf c =
    let whole = c.args.whole.now in let s = c.args.settings.now in let i = c.loop-middle.invariant in
    let es = batched_edges whole c.loop-middle.list in let after = lists_in whole c.loop-middle.waiting.items in
    same-next s.most_points s.overlap (lists_in whole c.args.waiting.now.items) (es ∷ after) after (leaf_of s.most_points es) i.2
    (whole-next s.most_points s.overlap es (c.in_default-middle.ensures whole i.1.batches) after)
