-- Numbers in order are parted by the test.
use Rattle.std.proofs.Common.{nat_lt, rules}
use Rattle.std.specs.Prelude.{nat_le}
use Rattle.std.proofs.lemmas.List.Sorted.{IsNonDecreasingBy-from_sort, IsPartitionPoint-from_clause, IsPartitionedBy-ltb}
use Rattle.osm_sides.proofs.LevelCounts.{count_front}
use Rattle.osm_sides.proofs.levels.count_below.Goals as goal

pub returns : goal.returns
returns c rise =
    let n = c.args.bound in let xs = c.args.numbers.now in let i = c.partition_point.result in
    let point = IsPartitionPoint-from_clause (λ m. nat_lt m n) xs i c.partition_point.ensures.partitioned (IsPartitionedBy-ltb (λ m. m) xs n (IsNonDecreasingBy-from_sort (λ m. m) xs rise)) (λ a r f' k. search rules) in
    count_front (λ m. nat_lt m n) xs i point.0 point.1 c.partition_point.ensures.bound
