-- One more closed walk, or all edges are passed.
use Rattle.std.proofs.Common.{arith, ◌∙◌}
use Rattle.std.proofs.lemmas.List.{length-set}
use Rattle.osm_rings.proofs.WalkSteps.{all-walked, walked-more}
use Rattle.osm_rings.proofs.few.walks.few_walks.Goals as goal

pub loop-done-preserved : goal.loop-done-preserved
loop-done-preserved c =
    let few = c.loop-done.invariant.2.few in let long = c.loop-done.invariant.1 in
    let all = c.if-edges-gt-FEW.false in (
      c.walk_from.array_long2,
      length-set c.loop-done.sizes c.loop-done.count c.in_ok-size.size ∙ long,
      walked-more c.args.edges.now c.loop-done.done c.loop-done.count c.in_ok-size.size c.loop-done.places c.walk_from.new.places c.loop-done.sizes c.loop-done.passed c.walk_from.new.passed c.loop-done.invariant.2 c.in_ok-size.ensures (omega arith),
    )

pub returns : goal.returns
returns c =
    let few = c.loop-done.invariant.2.few in let room = c.loop-done.invariant.2.room in
    let a = c.loop-done.invariant.0 in let b = c.loop-done.invariant.1 in
    all-walked c.args.edges.now c.loop-done.done c.loop-done.count c.loop-done.places c.loop-done.sizes c.loop-done.passed c.loop-done.invariant.2 (omega arith) (omega arith) (omega arith)
