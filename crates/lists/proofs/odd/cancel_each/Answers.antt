use Rattle.std.proofs.Common.{arith, length, subst, sym, take, ◌∙◌, ◌≡◌, ◌<◌}
use Rattle.std.proofs.lemmas.List.{take_all}
use Rattle.lists.specs.Tallied.{IsCancelled}
use Rattle.lists.proofs.CancelSteps.{cancel_step}
use Rattle.lists.proofs.Items.{item_at}
use Rattle.lists.proofs.TallySteps.{upto_sorted}
use Rattle.lists.proofs.odd.cancel_each.Goals as goal

pub loop-place-preserved : goal.loop-place-preserved
loop-place-preserved g c =
    let sorted = c.args.items.now.items in let place = c.loop-place.place in
    let (before, long, later, inv) = c.loop-place.invariant in
    let inside : place < length sorted = let test = c.loop-place-test.true in let len = c.len-place-end.ensures in omega arith in
    let (x, is) = item_at sorted place inside in
    let there = is ∙ sym (later place x (omega arith)) in
    let upto = upto_sorted g.met.T.Ord.total sorted place x c.requires inside is in
    let more = c.cancel_in-left.ensures.left (take place sorted) x there inv upto in (
      c.cancel_in-left.ensures.within,
      c.cancel_in-left.ensures.long ∙ long,
      λ k d behind. c.cancel_in-left.ensures.later k d (omega arith) ∙ later k d (omega arith),
      cancel_step g.met.T.Ord.total sorted place x inside is more,
    )

pub returns : goal.returns
returns g c =
    let sorted = c.args.items.now.items in let place = c.loop-place.place in
    let (before, long, later, inv) = c.loop-place.invariant in
    let all : take place sorted ≡ sorted = take_all place sorted (let test = c.loop-place-test.false in let len = c.len-place-end.ensures in omega arith) in
    subst (IsCancelled g.T.Ord.cmp sorted) (sym c.truncate.ensures.items) (subst (λ ys. IsCancelled g.T.Ord.cmp ys (take c.loop-place.left c.loop-place.items.items)) all inv)
