-- The steps up to the limit come first.
use Rattle.std.proofs.Common.{leb, arith, rules}
use Rattle.std.proofs.lemmas.List.Sorted.{IsPartitionPoint-from_clause, IsPartitionedBy-leb}
use Rattle.coast_sides.specs.declared.steps_along.StepAlong.{StepAlong}
use Rattle.coast_sides.proofs.StepOrders.{last_up_to, none_up_to}
use Rattle.coast_sides.proofs.stretches.last_up_to.Goals as goal

pub returns-then-count-eq0 : goal.returns-then-count-eq0
returns-then-count-eq0 c =
    let steps = c.args.steps.now in
    let limit = c.args.limit in
    let count = c.partition_point-count.result in
    let point = IsPartitionPoint-from_clause (λ (t : StepAlong). leb t.place limit) steps count c.partition_point-count.ensures.partitioned (IsPartitionedBy-leb (λ (t : StepAlong). t.place) steps limit c.requires) (λ a r f' k. search rules) in
    none_up_to steps limit count c.requires c.partition_point-count.ensures.bound point c.if-count-eq0.true

pub returns : goal.returns
returns c =
    let steps = c.args.steps.now in
    let limit = c.args.limit in
    let count = c.partition_point-count.result in
    let point = IsPartitionPoint-from_clause (λ (t : StepAlong). leb t.place limit) steps count c.partition_point-count.ensures.partitioned (IsPartitionedBy-leb (λ (t : StepAlong). t.place) steps limit c.requires) (λ a r f' k. search rules) in
    last_up_to steps limit count c.requires c.partition_point-count.ensures.bound point (omega arith) c.index-steps-count.result
