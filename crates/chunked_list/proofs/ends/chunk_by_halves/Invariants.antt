use Rattle.std.proofs.Common.{length, slice_index_or, ◌-◌, ◌<◌, ◌≤◌}
use Rattle.chunked_list.proofs.ends.chunk_by_halves.Given as goal

-- fewer items stand before the lower chunk, unless it is the first, and no fewer before the higher one
abbrev pub invariant-loop-high : goal.invariant-loop-high
invariant-loop-high g l =
    (l.low < l.high) × (l.high ≤ length l.chunks) × (0 < l.low → slice_index_or l.starts l.low 0 < l.count) × (l.high < length l.chunks → l.count ≤ slice_index_or l.starts l.high 0)

abbrev pub decreases-loop-high : goal.decreases-loop-high
decreases-loop-high g l = l.high - l.low
