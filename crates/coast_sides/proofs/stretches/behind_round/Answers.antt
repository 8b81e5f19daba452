-- The first step that is near enough.
use Rattle.std.proofs.Common.{refl, ◌+◌, ◌-◌, ◌/◌, ◌<◌}
use Rattle.std.proofs.lemmas.List.Elements.{All-contains}
use Rattle.coast_sides.specs.declared.steps_along.StepAlong.{StepAlong}
use Rattle.coast_sides.proofs.FarSteps.{far_back_round}
use Rattle.coast_sides.proofs.stretches.behind_round.Goals as goal

pub returns : goal.returns
returns c =
    far_back_round c.args.places c.args.at c.args.others.now c.requires.at (c.args.at + c.args.places - (c.args.places - 1) / 2) c.in-Some.place (c.args.at + c.args.places - c.in-Some.place) refl c.in-Some.ensures refl
    (λ t h. All-contains (λ (t : StepAlong). t.place < c.args.places) c.args.others.now t c.requires.inside h)
