use Rattle.std.proofs.Common.{arith, not, rules}
use Rattle.osm_sides.specs.SideTests.{counted}
use Rattle.lists.proofs.ListsKit.{not-false-out, not-true-out}
use Rattle.osm_sides.proofs.Counts.{count_from}
use Rattle.osm_sides.proofs.sweep.rows.right_from.Goals as goal

pub returns-clause-count : goal.returns-clause-count
returns-clause-count c =
    let s = c.args.s in let xs = c.args.status.now in let i = c.partition_point_near.result in
    let point = c.partition_point_near.ensures.point (λ t. not (counted s t)) (λ x told says. search rules) c.requires in
    let e = count_from (counted s) xs i (λ j d h l. not-true-out _ (point.0 j d h l)) (λ j d h l. not-false-out _ (point.1 j d h l)) c.partition_point_near.ensures.within in
    omega arith
