-- The steps below the segment come first, then those along it.
use Rattle.std.proofs.Common.{rules}
use Rattle.std.specs.Ordering.{is_le, is_lt}
use Rattle.std.proofs.lemmas.List.Sorted.{IsPartitionPoint-from_clause}
use Rattle.osm_lattice.specs.Seg.{seg_cmp}
use Rattle.coast_sides.specs.declared.steps_along.StepAlong.{StepAlong}
use Rattle.coast_sides.proofs.StepOrders.{along_part, from_to_end, parted_below, parted_up_to}
use Rattle.coast_sides.proofs.steps_along.along.Goals as goal

pub part-requires-clause-order : goal.part-requires-clause-order
part-requires-clause-order c =
    let steps = c.args.steps.now in
    let seg = c.args.seg in
    let from = c.partition_point-from.result in
    let end = c.partition_point-end.result in
    let below = IsPartitionPoint-from_clause (λ (t : StepAlong). is_lt (seg_cmp t.seg seg)) steps from c.partition_point-from.ensures.partitioned (parted_below steps c.requires seg) (λ a r f' k. search rules) in
    let up_to = IsPartitionPoint-from_clause (λ (t : StepAlong). is_le (seg_cmp t.seg seg)) steps end c.partition_point-end.ensures.partitioned (parted_up_to steps c.requires seg) (λ a r f' k. search rules) in
    from_to_end steps c.requires seg c.orders_are_exact.ensures.segments from end below up_to c.partition_point-from.ensures.bound c.partition_point-end.ensures.bound

pub returns : goal.returns
returns c =
    let steps = c.args.steps.now in
    let seg = c.args.seg in
    let from = c.partition_point-from.result in
    let end = c.partition_point-end.result in
    let below = IsPartitionPoint-from_clause (λ (t : StepAlong). is_lt (seg_cmp t.seg seg)) steps from c.partition_point-from.ensures.partitioned (parted_below steps c.requires seg) (λ a r f' k. search rules) in
    let up_to = IsPartitionPoint-from_clause (λ (t : StepAlong). is_le (seg_cmp t.seg seg)) steps end c.partition_point-end.ensures.partitioned (parted_up_to steps c.requires seg) (λ a r f' k. search rules) in
    along_part steps c.requires seg c.orders_are_exact.ensures.segments from end below up_to c.partition_point-from.ensures.bound c.partition_point-end.ensures.bound c.part.result.now c.part.ensures
