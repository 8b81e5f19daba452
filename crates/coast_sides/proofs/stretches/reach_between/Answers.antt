-- The steps along both segments are those of the pair.
use Rattle.std.proofs.Common.{length, ap, ◌||◌, ◌∙◌}
use Rattle.coast_sides.specs.ShortcutSteps.{is_reached}
use Rattle.coast_sides.proofs.ReachedLocations.{along_inside, by_pair, either_first}
use Rattle.coast_sides.proofs.stretches.reach_between.Goals as goal

pub reach_over-requires-clause-steps : goal.reach_over-requires-clause-steps
reach_over-requires-clause-steps c = along_inside (length c.args.reach.now) c.args.steps.now c.along-first.result.now c.args.pair.now.first c.requires.inside c.along-first.ensures

pub reach_over-requires-clause-inside : goal.reach_over-requires-clause-inside
reach_over-requires-clause-inside c = along_inside (length c.args.reach.now) c.args.steps.now c.along-second.result.now c.args.pair.now.second c.requires.inside c.along-second.ensures

pub reach_over-requires-else-first-second-clause-steps : goal.reach_over-requires-else-first-second-clause-steps
reach_over-requires-else-first-second-clause-steps c = along_inside (length c.args.reach.now) c.args.steps.now c.along-second.result.now c.args.pair.now.second c.requires.inside c.along-second.ensures

pub reach_over-requires-else-first-second-clause-inside : goal.reach_over-requires-else-first-second-clause-inside
reach_over-requires-else-first-second-clause-inside c = along_inside (length c.args.reach.now) c.args.steps.now c.along-first.result.now c.args.pair.now.first c.requires.inside c.along-first.ensures

pub returns-then-first-second : goal.returns-then-first-second
returns-then-first-second c = λ k h.
    c.reach_over.ensures k h
    ∙ ap (λ b. is_reached c.args.reach.now k || b) (by_pair c.orders_are_exact.ensures.segments (length c.args.reach.now) k c.args.steps.now c.along-first.result.now c.along-second.result.now c.args.pair.now c.along-first.ensures c.along-second.ensures)

pub returns-else-first-second : goal.returns-else-first-second
returns-else-first-second c = λ k h.
    let n = length c.args.reach.now in
    c.reach_over-else-first-second.ensures k h
    ∙ ap (λ b. is_reached c.args.reach.now k || b) (either_first n k c.along-first.result.now c.along-second.result.now ∙ by_pair c.orders_are_exact.ensures.segments n k c.args.steps.now c.along-first.result.now c.along-second.result.now c.args.pair.now c.along-first.ensures c.along-second.ensures)
