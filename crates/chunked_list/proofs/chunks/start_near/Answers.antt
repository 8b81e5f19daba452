use Rattle.std.proofs.Common.{arith}
use Rattle.chunked_list.proofs.FirstItems.{long}
use Rattle.chunked_list.proofs.chunks.start_near.Goals as goal

pub start_of-requires : goal.start_of-requires
start_of-requires g c = let size = long (λ chunk. chunk.items) c.args.chunks.now c.args.starts.now c.requires in let test = c.if-near-chunks.false in omega arith
