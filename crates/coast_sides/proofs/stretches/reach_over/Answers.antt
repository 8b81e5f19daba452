-- One more step.
use Rattle.std.proofs.Common.{length, ap, ◌||◌, ◌∙◌, arith}
use Rattle.std.specs.List.{list_any}
use Rattle.coast_sides.specs.declared.steps_along.StepAlong.{StepAlong}
use Rattle.coast_sides.specs.ShortcutSteps.{is_reached, lies_between}
use Rattle.coast_sides.proofs.ListSteps.{or_any_step}
use Rattle.coast_sides.proofs.stretches.reach_over.Goals as goal

pub loop-step-preserved : goal.loop-step-preserved
loop-step-preserved c = λ k h.
    let n = length c.args.reach.now in
    let others = c.args.others.now in
    let same = c.loop-step.auto.reach in
    or_any_step (λ (s : StepAlong). list_any (λ (t : StepAlong). lies_between n s.place t.place k) others) c.args.steps.now c.loop-step.step-index c.step-item.result (is_reached c.args.reach.now k) (is_reached c.loop-step.reach k) (is_reached c.reach_from.new.reach k)
    c.loop-step-test.true c.step-item.is (c.loop-step.invariant k h)
    (c.reach_from.ensures k (omega (arith, h, same)) ∙ ap (λ m. is_reached c.loop-step.reach k || list_any (λ (t : StepAlong). lies_between m c.step-item.result.place t.place k) others) same)
