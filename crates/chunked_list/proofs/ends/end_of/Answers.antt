-- The chunk's start is among the starts, and no more than the count.
use Rattle.std.proofs.Common.{arith, ◌-◌}
use Rattle.std.proofs.Math.Path.{subst, sym}
use Rattle.chunked_list.specs.Starts.{ItemsEnd}
use Rattle.chunked_list.proofs.FirstItems.{long, start_below}
use Rattle.chunked_list.proofs.ends.end_of.Goals as goal

pub start_of-requires : goal.start_of-requires
start_of-requires g c = let size = long (λ chunk. chunk.items) c.args.chunks.now c.args.starts.now c.requires.starts in let inside = (c.ends_in.ensures c.if-ends_in.true).inside in omega arith

pub overflow_sub-result : goal.overflow_sub-result
overflow_sub-result g c =
    let below = start_below (λ chunk. chunk.items) c.args.chunks.now c.args.starts.now c.requires.starts c.args.near c.args.count (c.ends_in.ensures c.if-ends_in.true) in
    let start = c.start_of.ensures in omega arith

pub returns-then-ends_in : goal.returns-then-ends_in
returns-then-ends_in g c = subst (λ n. ItemsEnd (λ chunk. chunk.items) c.args.chunks.now c.args.near (c.args.count - n) c.args.count) (sym c.start_of.ensures) (c.ends_in.ensures c.if-ends_in.true)
