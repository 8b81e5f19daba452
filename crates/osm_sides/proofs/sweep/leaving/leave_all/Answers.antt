use Rattle.std.proofs.Common.{rules}
use Rattle.osm_sides.specs.Sweep.{ends_above}
use Rattle.osm_sides.proofs.sweep.leaving.leave_all.Goals as goal

pub returns : goal.returns
returns c = c.retain.ensures (ends_above c.args.at.y) (λ x told says. search rules)
