use Rattle.std.proofs.Common.{◌≤◌, length}
use Rattle.chunked_list.proofs.Counted.{IsCounted}
use Rattle.chunked_list.proofs.starts.Starts.recount.Given as goal

abbrev pub invariant-loop-chunk : goal.invariant-loop-chunk
invariant-loop-chunk g l = (l.chunk ≤ length l.chunks) × IsCounted (λ c. c.items) l.chunks l.self-inside.blocks.items l.self-inside.within.items l.chunk l.count
