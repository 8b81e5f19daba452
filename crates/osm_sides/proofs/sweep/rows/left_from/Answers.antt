use Rattle.std.proofs.Common.{arith, not, rules}
use Rattle.osm_sides.specs.SideTests.{left_of}
use Rattle.lists.proofs.ListsKit.{not-false-out, not-true-out}
use Rattle.osm_sides.proofs.Counts.{count_from}
use Rattle.osm_sides.proofs.sweep.rows.left_from.Goals as goal

pub returns-clause-count : goal.returns-clause-count
returns-clause-count c =
    let p = c.args.p in let xs = c.args.status.now in let i = c.partition_point_near.result in
    let point = c.partition_point_near.ensures.point (λ t. not (left_of p t)) (λ x told says. search rules) c.requires in
    let e = count_from (left_of p) xs i (λ j d h l. not-true-out _ (point.0 j d h l)) (λ j d h l. not-false-out _ (point.1 j d h l)) c.partition_point_near.ensures.within in
    omega arith
