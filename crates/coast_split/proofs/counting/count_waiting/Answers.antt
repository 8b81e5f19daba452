-- One more leaf came, or none was left.
use Rattle.std.proofs.Common.{arith, subst, ℕ, ◌≡◌}
use Rattle.coast_split.specs.Splitting.{HaveMoreLeft}
use Rattle.coast_split.specs.Waiting.{lists_in}
use Rattle.coast_split.proofs.LeafCounts.{all-came, more-come, one-came}
use Rattle.coast_split.proofs.WaitingLists.{none-wait}
use Rattle.coast_split.proofs.counting.count_waiting.Goals as goal

pub loop-count-preserved : goal.loop-count-preserved
loop-count-preserved c =
    let whole = c.args.whole.now in let s = c.args.settings.now in let now = lists_in whole c.loop-count.waiting.items in let after = lists_in whole c.pass_leaf.new.waiting.items in
    let k = c.in_ok-pass_leaf.ensures in let g = k.passed c.if-not-branch.false in
    (k.waiting, one-came s.most_points s.overlap (lists_in whole c.args.waiting.now.items) c.loop-count.count now after g.0 c.loop-count.invariant.1 g.1)

pub returns-then-not-branch-clause-counted : goal.returns-then-not-branch-clause-counted
returns-then-not-branch-clause-counted c =
    let whole = c.args.whole.now in let s = c.args.settings.now in let t = c.loop-count-test.true in
    let all = all-came s.most_points s.overlap (lists_in whole c.args.waiting.now.items) c.loop-count.count (lists_in whole c.loop-count.waiting.items) c.loop-count.invariant.1
    (none-wait whole c.loop-count.waiting.items (c.in_ok-pass_leaf.ensures.none c.if-not-branch.true)) in
    (all.0, all.1, all.2, omega arith)

pub returns-then-branch-clause-many : goal.returns-then-branch-clause-many
returns-then-branch-clause-many c =
    let whole = c.args.whole.now in let s = c.args.settings.now in let start = lists_in whole c.args.waiting.now.items in
    let g = c.in_ok-pass_leaf-2.ensures.passed c.if-branch.true in let t = c.loop-count-test.false in let b = c.loop-count.auto.count-end in
    let n : c.loop-count.count ≡ s.most_leaves = omega arith in
    let more = more-come s.most_points s.overlap start c.split_trees_exist.ensures c.loop-count.count (lists_in whole c.loop-count.waiting.items) (lists_in whole c.pass_leaf-2.new.waiting.items) g.0 c.loop-count.invariant.1 g.1 in
    λ m e. (cc e, subst (λ (k : ℕ). HaveMoreLeft s.most_points s.overlap k start) n more)

pub returns-clause-counted : goal.returns-clause-counted
returns-clause-counted c =
    let whole = c.args.whole.now in let s = c.args.settings.now in let t = c.loop-count-test.false in let b = c.loop-count.auto.count-end in
    let all = all-came s.most_points s.overlap (lists_in whole c.args.waiting.now.items) c.loop-count.count (lists_in whole c.loop-count.waiting.items) c.loop-count.invariant.1
    (none-wait whole c.loop-count.waiting.items (c.in_ok-pass_leaf-2.ensures.none c.if-branch.false)) in
    let n : c.loop-count.count ≡ s.most_leaves = omega arith in
    (all.0, all.1, omega (arith, all.2), omega arith)
