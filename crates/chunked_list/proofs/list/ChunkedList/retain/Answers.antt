use Rattle.std.proofs.Common.{arith, filter, length, rules, take, ◌<◌, ◌≤◌}
use Rattle.std.proofs.Math.Path.{ap, subst, sym, ◌∙◌}
use Rattle.std.proofs.lemmas.List.Edits.{length-remove}
use Rattle.chunked_list.proofs.Kept.{kept-more, same-without, take-without}
use Rattle.chunked_list.proofs.list.ChunkedList.retain.Goals as goal

pub loop-place-preserved-then-passes : goal.loop-place-preserved-then-passes
loop-place-preserved-then-passes g c =
    let xs = c.loop-place.self in let place = c.loop-place.place in let x = c.get.result in
    let inside : place < length xs = search rules in (
      omega arith,
      λ p told.
          let passes = ap p (sym (c.get.ensures x)) ∙ sym (told x c.passes.result c.passes.ensures) ∙ c.if-passes.true in
          let (same, kept) = c.loop-place.invariant.1 p told in
          (same, kept-more p xs place x inside passes kept),
    )

pub loop-place-preserved : goal.loop-place-preserved
loop-place-preserved g c =
    let xs = c.loop-place.self in let place = c.loop-place.place in let x = c.get.result in
    let inside : place < length xs = search rules in
    let shorter = length-remove xs place inside in
    let removed = c.remove.ensures.removed in (
      subst (λ ys. place ≤ length ys) (sym removed) (omega arith),
      λ p told.
          let fails = ap p (sym (c.get.ensures x)) ∙ sym (told x c.passes.result c.passes.ensures) ∙ c.if-passes.false in
          let (same, kept) = c.loop-place.invariant.1 p told in
          let front = ap (take place) removed ∙ take-without xs place in
          (ap (filter p) removed ∙ same-without p xs place x inside fails ∙ same, ap (filter p) front ∙ kept ∙ sym front),
    )
