-- No step is behind round the start of the line; the first one near enough, if it is behind.
use Rattle.std.proofs.Common.{refl, ◌-◌, arith}
use Rattle.coast_sides.proofs.FarSteps.{far_back, none_behind}
use Rattle.coast_sides.proofs.stretches.farthest_behind.Goals as goal

pub returns-in-Some-first_from : goal.returns-in-Some-first_from
returns-in-Some-first_from c = far_back c.args.places c.args.at c.args.others.now c.requires.at c.saturating_sub.result c.in-Some-first_from.place (c.args.at - c.in-Some-first_from.place) c.in_default.ensures c.saturating_sub.ensures c.in-Some-first_from.ensures c.if-place-at.true refl

pub returns-in_default-first_from : goal.returns-in_default-first_from
returns-in_default-first_from c =
    none_behind c.args.places c.args.at c.args.others.now c.requires.at c.saturating_sub.result c.in_default.ensures c.saturating_sub.ensures
    (λ t h l. let first = c.in-Some-first_from.ensures.first t h l in let not_before = c.if-place-at.false in omega arith)

pub returns-in_default-first_from-2 : goal.returns-in_default-first_from-2
returns-in_default-first_from-2 c =
    none_behind c.args.places c.args.at c.args.others.now c.requires.at c.saturating_sub.result c.in_default.ensures c.saturating_sub.ensures
    (λ t h l. let before = c.in_default-first_from.ensures t h in absurd (omega arith))
