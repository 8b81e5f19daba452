use Rattle.std.proofs.Common.{not, rules}
use Rattle.osm_sides.specs.SideTests.{counted}
use Rattle.osm_sides.proofs.sweep.rows.place.Goals as goal

pub returns-clause-before : goal.returns-clause-before
returns-clause-before c = let point = c.partition_point.ensures.point (λ t. not (counted c.args.s t)) (λ x told says. search rules) c.requires in point.0

pub returns-clause-after : goal.returns-clause-after
returns-clause-after c = let point = c.partition_point.ensures.point (λ t. not (counted c.args.s t)) (λ x told says. search rules) c.requires in point.1
