use Rattle.std.proofs.Common.{◌∙◌}
use Rattle.coast_split.proofs.Lists.{step-none, step-one}
use Rattle.coast_split.proofs.halves.portions.Goals as goal
use Rattle.coast_split.proofs.halves.portions.Goals.{in-Some+in_ok-push, in_default}

pub loop-e-preserved : goal.loop-e-preserved
loop-e-preserved c =
    elim c.match-portion.branch [
      | in-Some+in_ok-push w ↦
          step-one c.args.cut c.args.side c.args.edges.now c.loop-e.e-index c.e-item.result c.e-item.is c.loop-e-test.true c.loop-e.portions c.loop-e.invariant
          c.match-portion.portions w.in-Some.t (w.portions-is ∙ w.in_ok-push.ensures.ok) w.in-Some.ensures
      | in_default w ↦
          step-none c.args.cut c.args.side c.args.edges.now c.loop-e.e-index c.e-item.result c.e-item.is c.loop-e-test.true c.loop-e.portions c.loop-e.invariant
          c.match-portion.portions w.portions-is w.in_default.ensures
    ]
