use Rattle.std.proofs.Common.{arith, length, ◌-◌, ◌+◌, ◌<◌, ◌≡◌, take}
use Rattle.std.specs.List.{flat_map}
use Rattle.std.proofs.Math.Path.{subst, sym, ◌∙◌}
use Rattle.std.proofs.lemmas.List.{get_or_default}
use Rattle.chunked_list.proofs.FirstItems.{start}
use Rattle.chunked_list.proofs.Joined.{item-at}
use Rattle.chunked_list.proofs.chunks.item_from.Goals as goal

pub returns-then-place-start : goal.returns-then-place-start
returns-then-place-start g c =
    let cs = c.args.chunks.now in let i = c.args.near in let at = c.args.place - c.args.start in
    let b = c.index-chunks-near.result in let chunk = c.index-chunks-near-then-place-start.result in
    let same : b ≡ chunk = c.index-chunks-near.is ∙ get_or_default cs i b chunk c.if-near-chunks.true ∙ sym c.index-chunks-near-then-place-start.is in
    let first : at < length b.items = (let size = c.len.ensures in let ok = b.ok in let test = c.if-place-start.true in omega arith) in
    let reach : at < length chunk.items = subst (λ y. at < length y.items) same first in
    let before = c.requires.near c.if-near-chunks.true ∙ start (λ chunk. chunk.items) cs c.args.starts.now c.requires.starts i 0 c.if-near-chunks.true in
    let count : c.args.place ≡ length (flat_map (λ chunk. chunk.items) (take i cs)) + at = (let up = c.if-start-place.true in omega arith) in
    λ d. item-at (λ chunk. chunk.items) cs c.args.place i at chunk c.index.result.now d (c.if-near-chunks.true, c.index-chunks-near-then-place-start.is, count, reach) c.index.ensures
