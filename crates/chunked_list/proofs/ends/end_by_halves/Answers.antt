-- The chunk's start is among the starts, and no more than the count.
use Rattle.std.proofs.Common.{arith, ◌-◌}
use Rattle.std.proofs.Math.Path.{subst, sym}
use Rattle.chunked_list.specs.Starts.{ItemsEnd}
use Rattle.chunked_list.proofs.FirstItems.{long, start_below}
use Rattle.chunked_list.proofs.ends.end_by_halves.Goals as goal

pub start_of-requires : goal.start_of-requires
start_of-requires g c = let size = long (λ chunk. chunk.items) c.args.chunks.now c.args.starts.now c.requires.starts in let inside = c.chunk_by_halves-chunk.ensures.inside in omega arith

pub overflow_sub-result : goal.overflow_sub-result
overflow_sub-result g c =
    let below = start_below (λ chunk. chunk.items) c.args.chunks.now c.args.starts.now c.requires.starts c.chunk_by_halves-chunk.result c.args.count c.chunk_by_halves-chunk.ensures in
    let start = c.start_of.ensures in omega arith

pub returns : goal.returns
returns g c = subst (λ n. ItemsEnd (λ chunk. chunk.items) c.args.chunks.now c.chunk_by_halves-chunk.result (c.args.count - n) c.args.count) (sym c.start_of.ensures) c.chunk_by_halves-chunk.ensures
