-- A chunk before which fewer items stand, and which reaches so far.
use Rattle.std.proofs.Common.{arith, length, slice_index_or, ◌-◌, ◌<◌, ◌≤◌}
use Rattle.std.proofs.Math.Path.{subst, ◌∙◌}
use Rattle.std.proofs.lemmas.Bool.{leb-true}
use Rattle.std.proofs.lemmas.List.{get_or_default}
use Rattle.chunked_list.proofs.FirstItems.{end_here, long}
use Rattle.chunked_list.proofs.ends.ends_in.Goals as goal

pub start_of-start-requires : goal.start_of-start-requires
start_of-start-requires g c = let size = long (λ chunk. chunk.items) c.args.chunks.now c.args.starts.now c.requires in let test = c.if-chunk-chunks.false in omega arith

pub returns : goal.returns
returns g c told =
    let chunks = c.args.chunks.now in let i = c.args.chunk in let b = c.index-chunks-chunk.result in
    let start = c.start_of-start.ensures in
    let most = leb-true (c.args.count - c.start_of-start.result) c.len.result told in
    let below : slice_index_or c.args.starts.now i 0 < c.args.count = (let test = c.if-start-count.false in omega arith) in
    end_here (λ chunk. chunk.items) chunks c.args.starts.now c.requires i c.args.count c.if-chunk-chunks.false below
    (λ d. let same = c.index-chunks-chunk.is ∙ get_or_default chunks i b d c.if-chunk-chunks.false in
    subst (λ y. c.args.count - slice_index_or c.args.starts.now i 0 ≤ length y.items) same (let size = c.len.ensures in let ok = b.ok in omega arith))
