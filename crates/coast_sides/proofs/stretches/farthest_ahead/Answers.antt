-- No step is ahead round the end of the line; the last one near enough, if it is ahead.
use Rattle.std.proofs.Common.{refl, ◌+◌, ◌-◌, ◌/◌, arith}
use Rattle.coast_sides.proofs.FarSteps.{far_up, none_ahead}
use Rattle.coast_sides.proofs.stretches.farthest_ahead.Goals as goal

pub returns-in-Some-last_up_to : goal.returns-in-Some-last_up_to
returns-in-Some-last_up_to c = far_up c.args.places c.args.at c.args.others.now c.requires.at (c.args.at + c.args.places / 2) c.in-Some-last_up_to.place (c.in-Some-last_up_to.place - c.args.at) c.in_default.ensures refl c.in-Some-last_up_to.ensures c.if-place-at.true refl

pub returns-in_default-last_up_to : goal.returns-in_default-last_up_to
returns-in_default-last_up_to c =
    none_ahead c.args.places c.args.at c.args.others.now c.requires.at (c.args.at + c.args.places / 2) c.in_default.ensures refl
    (λ t h l. let last = c.in-Some-last_up_to.ensures.last t h l in let not_past = c.if-place-at.false in omega arith)

pub returns-in_default-last_up_to-2 : goal.returns-in_default-last_up_to-2
returns-in_default-last_up_to-2 c =
    none_ahead c.args.places c.args.at c.args.others.now c.requires.at (c.args.at + c.args.places / 2) c.in_default.ensures refl
    (λ t h l. let past = c.in_default-last_up_to.ensures t h in absurd (omega arith))
