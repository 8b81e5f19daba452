-- The last step that is near enough.
use Rattle.std.proofs.Common.{refl, ◌+◌, ◌-◌, ◌/◌, ◌<◌}
use Rattle.std.proofs.lemmas.List.Elements.{All-contains}
use Rattle.coast_sides.specs.declared.steps_along.StepAlong.{StepAlong}
use Rattle.coast_sides.proofs.FarSteps.{far_round}
use Rattle.coast_sides.proofs.stretches.ahead_round.Goals as goal

pub returns : goal.returns
returns c =
    far_round c.args.places c.args.at c.args.others.now c.requires.at (c.args.at + (c.args.places - 1) / 2) c.in-Some.place (c.in-Some.place + c.args.places - c.args.at) refl c.if-limit-places.false c.in-Some.ensures refl
    (λ t h. All-contains (λ (t : StepAlong). t.place < c.args.places) c.args.others.now t c.requires.inside h)
