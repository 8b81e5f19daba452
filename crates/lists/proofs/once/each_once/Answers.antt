-- One more item, seen before or not.
use Rattle.std.proofs.Common.{ap, false, sym, true, ◌∙◌, ◌≡◌}
use Rattle.std.specs.List.{list_any}
use Rattle.lists.proofs.Bools.{false_from_not, true_from_not}
use Rattle.lists.proofs.EachOnce.{once_step, seen_again, seen_more, with_item-new, with_item-seen}
use Rattle.lists.proofs.once.each_once.Goals as goal
use Rattle.lists.proofs.once.each_once.Goals.{then-branch+in_ok-push, else-branch}

pub loop-item-preserved : goal.loop-item-preserved
loop-item-preserved g c =
    let eq = g.T.PartialEq.eq in let laws = g.met.T.Eq.laws in let ties = g.met.T.Ord.matches_eq in
    let x = c.item-item.result in let once = c.loop-item.once.items in
    let inv = c.loop-item.invariant in
    elim c.if-branch.branch [
      | then-branch+in_ok-push w ↦
          let new : list_any (eq x) once ≡ false = sym (inv.seen x) ∙ false_from_not _ _ c.in_ok-insert.ensures.added w.if-branch.true in
          let more = ap (λ v. v.items) w.once-is ∙ w.in_ok-push.ensures.items in
          record {
            once = once_step laws _ _ _ once _ c.loop-item-test.true c.item-item.is (more ∙ sym (with_item-new eq once x new)) inv.once;
            seen = λ q. c.in_ok-insert.ensures.updates.0 q ∙ seen_more laws q x _ _ once (sym (ties x q)) (inv.seen q) ∙ ap (list_any (eq q)) (sym more);
          }
      | else-branch w ↦
          let old : list_any (eq x) once ≡ true = sym (inv.seen x) ∙ true_from_not _ _ c.in_ok-insert.ensures.added w.if-branch.false in
          let same = ap (λ v. v.items) w.once-is in
          record {
            once = once_step laws _ _ _ once _ c.loop-item-test.true c.item-item.is (same ∙ sym (with_item-seen eq once x old)) inv.once;
            seen = λ q. c.in_ok-insert.ensures.updates.0 q ∙ seen_again laws q x _ _ once old (sym (ties x q)) (inv.seen q) ∙ ap (list_any (eq q)) (sym same);
          }
    ]
