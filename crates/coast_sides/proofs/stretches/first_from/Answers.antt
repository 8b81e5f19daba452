-- The steps before the limit come first.
use Rattle.std.proofs.Common.{ltb, arith, rules}
use Rattle.std.proofs.lemmas.List.Sorted.{IsPartitionPoint-from_clause, IsPartitionedBy-ltb}
use Rattle.coast_sides.specs.declared.steps_along.StepAlong.{StepAlong}
use Rattle.coast_sides.proofs.StepOrders.{first_from, none_from}
use Rattle.coast_sides.proofs.stretches.first_from.Goals as goal

pub returns-then-count-steps : goal.returns-then-count-steps
returns-then-count-steps c =
    let steps = c.args.steps.now in
    let limit = c.args.limit in
    let count = c.partition_point-count.result in
    let point = IsPartitionPoint-from_clause (λ (t : StepAlong). ltb t.place limit) steps count c.partition_point-count.ensures.partitioned (IsPartitionedBy-ltb (λ (t : StepAlong). t.place) steps limit c.requires) (λ a r f' k. search rules) in
    none_from steps limit count c.requires c.partition_point-count.ensures.bound point c.if-count-steps.true

pub returns : goal.returns
returns c =
    let steps = c.args.steps.now in
    let limit = c.args.limit in
    let count = c.partition_point-count.result in
    let point = IsPartitionPoint-from_clause (λ (t : StepAlong). ltb t.place limit) steps count c.partition_point-count.ensures.partitioned (IsPartitionedBy-ltb (λ (t : StepAlong). t.place) steps limit c.requires) (λ a r f' k. search rules) in
    first_from steps limit count c.requires c.partition_point-count.ensures.bound point (omega arith) c.index-steps-count.result
