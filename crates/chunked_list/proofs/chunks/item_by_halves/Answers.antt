use Rattle.std.proofs.Common.{◌-◌}
use Rattle.chunked_list.proofs.Joined.{found, item-at}
use Rattle.chunked_list.proofs.chunks.item_by_halves.Goals as goal

pub returns : goal.returns
returns g c =
    let end = c.end_by_halves-end.result in
    let chunk = c.index-chunks-end.result in
    let is_in = found (λ chunk. chunk.items) c.args.chunks.now c.args.place end.chunk end.within chunk c.end_by_halves-end.ensures c.index-chunks-end.is in
    λ d. item-at (λ chunk. chunk.items) c.args.chunks.now c.args.place end.chunk (end.within - 1) chunk c.index.result.now d is_in c.index.ensures
