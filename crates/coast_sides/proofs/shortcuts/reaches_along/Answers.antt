-- Nothing is reached at first, and then what all conflicts tell.
use Rattle.std.proofs.Common.{◌<◌, ◌≡◌, All, ap, length, subst, sym, ◌∙◌, ℕ}
use Rattle.std.proofs.lemmas.List.{length-replicate}
use Rattle.coast_sides.specs.ShortcutSteps.{AreReaches}
use Rattle.coast_sides.specs.declared.steps_along.StepAlong.{StepAlong}
use Rattle.coast_sides.proofs.RoundWalks.{places_inside, put_back, reaches_made}
use Rattle.coast_sides.proofs.shortcuts.reaches_along.Goals as goal

pub reach_all-requires-clause-inside : goal.reach_all-requires-clause-inside
reach_all-requires-clause-inside c =
    let long : length c.deref_mut.result.now ≡ length c.args.path.now = ap length (c.deref_mut.ensures.value ∙ c.in_ok-reach.ensures) ∙ length-replicate {A = ℕ} (length c.args.path.now) 0 in
    subst (λ n. All (λ (t : StepAlong). t.place < n) c.args.steps.now) (sym long) (places_inside c.args.path.now c.args.steps.now c.requires.steps)

pub returns : goal.returns
returns c =
    let lent = c.deref_mut.ensures.value in
    let whole = put_back c.reach_all.new.reach c.in_ok-reach.reach.items c.in_ok-reach.reach.len (c.reach_all.auto.reach ∙ ap length lent) c.in_ok-reach.reach.ok.0 in
    subst (AreReaches c.args.path.now) (sym whole)
    (reaches_made c.orders_are_exact.ensures.segments c.conflicts_are_symmetric.ensures c.args.path.now c.args.steps.now c.args.segs.now c.args.conflicts.now c.deref_mut.result.now c.reach_all.new.reach c.requires.steps c.requires.distinct c.requires.conflicts (lent ∙ c.in_ok-reach.ensures) c.reach_all.auto.reach c.reach_all.ensures)
