-- Fewer items stand before the chunk found, and no fewer before the next.
use Rattle.std.proofs.Common.{arith, length, slice_index_or, suc, ◌<◌, ◌≡◌, ◌≤◌}
use Rattle.std.proofs.Math.Path.{subst}
use Rattle.chunked_list.proofs.FirstItems.{end_by_halves, long}
use Rattle.chunked_list.proofs.ends.chunk_by_halves.Goals as goal

pub start_of-requires : goal.start_of-requires
start_of-requires g c =
    let size = long (λ chunk. chunk.items) c.args.chunks.now c.args.starts.now c.requires.starts in
    let (up, most, fewer, next) = c.loop-high.invariant in let test = c.loop-high-test.true in omega arith

pub returns : goal.returns
returns g c =
    let cs = c.args.chunks.now in let ss = c.args.starts.now in let low = c.loop-high.low in
    let (up, most, fewer, next) = c.loop-high.invariant in
    let end : c.loop-high.high ≡ suc low = (let test = c.loop-high-test.false in omega arith) in
    end_by_halves (λ chunk. chunk.items) cs ss c.requires.starts c.args.count low (omega arith) c.requires.within fewer
    (subst (λ h. h < length cs → c.args.count ≤ slice_index_or ss h 0) end next)
