-- A list with few edges is its own leaf.
use Rattle.std.proofs.Common.{[], ap, false, length, sym, ◌∙◌, ◌∷◌, ◌≡◌}
use Rattle.std.proofs.lemmas.Result.{IfErr-weaker, IfOk-weaker}
use Rattle.coast_split.specs.SplitTree.{is_split, leaf_of}
use Rattle.coast_split.proofs.LeafCounts.{more-than-none}
use Rattle.coast_split.proofs.LeavesLeft.{not-split, one-leaf}
use Rattle.coast_split.proofs.counting.count_leaves.Goals as goal

few : (c : goal.After-count_of_one) → is_split c.args.settings.now.most_points c.args.settings.now.overlap c.args.edges.now ≡ false
few c =
    let s = c.args.settings.now in let es = c.args.edges.now in
    not-split s.most_points s.overlap es (sym (c.has_many.ensures es (ap length c.as_slice-whole.ensures)) ∙ c.if-not-has_many.true)

pub returns-then-not-has_many-clause-counted : goal.returns-then-not-has_many-clause-counted
returns-then-not-has_many-clause-counted c =
    let s = c.args.settings.now in let es = c.args.edges.now in
    IfOk-weaker c.count_of_one.result _ _ (λ n h. (leaf_of s.most_points es ∷ [], one-leaf s.most_points s.overlap es (few c), h.0, h.1)) c.count_of_one.ensures.counted

pub returns-then-not-has_many-clause-many : goal.returns-then-not-has_many-clause-many
returns-then-not-has_many-clause-many c =
    let s = c.args.settings.now in let es = c.args.edges.now in
    IfErr-weaker c.count_of_one.result _ _ (λ e h m q. ((h m q).0, more-than-none s.most_points s.overlap es s.most_leaves (few c) (h m q).1)) c.count_of_one.ensures.many
