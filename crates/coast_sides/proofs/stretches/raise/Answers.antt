-- One more stretch, or none that is longer.
use Rattle.coast_sides.proofs.ReachedLocations.{not_raised, raised}
use Rattle.coast_sides.proofs.stretches.raise.Goals as goal

pub returns-then-reach-from : goal.returns-then-reach-from
returns-then-reach-from c = λ k. raised c.args.reach.now c.args.from c.args.count k c.requires c.if-reach-from.true

pub returns-else-reach-from : goal.returns-else-reach-from
returns-else-reach-from c = λ k. not_raised c.args.reach.now c.args.from c.args.count k c.requires c.if-reach-from.false
