-- One item more stands behind.
use Rattle.std.proofs.Common.{arith, length, refl, subst, ◌++◌, ◌-◌, ◌≡◌}
use Rattle.osm_nest.proofs.Merging.{AreMerging, merging-begun, merging-ended, one-of-first, one-of-others}
use Rattle.osm_nest.proofs.sweep.ring_edges.merge.Goals as goal

pub loop-rest-init : goal.loop-rest-init
loop-rest-init c =
    let first = c.args.edges.now.items in let others = c.args.others.now in
    subst (λ n. AreMerging (first ++ others) others c.extend_from_slice.new.self.items n (length others)) (let size = c.len-left.ensures in let ok = c.args.edges.now.ok in let same : length first ≡ c.len-left.result = omega arith in same)
    (merging-begun (first ++ others) others c.extend_from_slice.new.self.items first refl c.in_ok-extend_from_slice.ensures.items)

pub loop-rest-preserved-then-not-is_in_order : goal.loop-rest-preserved-then-not-is_in_order
loop-rest-preserved-then-not-is_in_order c =
    let others = c.args.others.now in let left = c.loop-rest.left in
    one-of-first (c.args.edges.now.items ++ others) others c.loop-rest.edges.items left (left - 1) c.loop-rest.rest c.index-then-not-is_in_order.result.now
    (let some = c.if-left-gt0.true in omega arith) c.loop-rest-test.true c.index-then-not-is_in_order.ensures c.loop-rest.invariant

pub loop-rest-preserved : goal.loop-rest-preserved
loop-rest-preserved c =
    let others = c.args.others.now in let rest = c.loop-rest.rest in
    one-of-others (c.args.edges.now.items ++ others) others c.loop-rest.edges.items c.loop-rest.left rest (rest - 1) c.index-others-rest-else-left-gt0.result
    (let some = c.loop-rest-test.true in omega arith) c.index-others-rest-else-left-gt0.is c.loop-rest.invariant

pub returns : goal.returns
returns c =
    let all = c.args.edges.now.items ++ c.args.others.now in
    merging-ended all c.args.others.now c.loop-rest.edges.items c.loop-rest.left
    (subst (AreMerging all c.args.others.now c.loop-rest.edges.items c.loop-rest.left) (let end = c.loop-rest-test.false in omega arith) c.loop-rest.invariant)
