use Rattle.std.proofs.Common.{arith, ap, drop, length, map, suc, take, ◌+◌, ◌++◌, ◌-◌, ◌≡◌}
use Rattle.std.proofs.Math.Path.{subst, sym, ◌∙◌}
use Rattle.std.specs.List.{flat_map}
use Rattle.std.proofs.lemmas.List.Edits.{length-remove}
use Rattle.chunked_list.specs.Starts.{ItemsEnd, starts_from}
use Rattle.chunked_list.proofs.FirstItems.{long, starts_behind}
use Rattle.chunked_list.proofs.Fronts.{starts-lowered}
use Rattle.chunked_list.proofs.Joined.{found, item-at, remove-set}
use Rattle.chunked_list.proofs.chunks.take_out.Goals as goal

pub lower-requires-clause-inside : goal.lower-requires-clause-inside
lower-requires-clause-inside g c =
    let end = c.end_of-end.result in let chunk = c.index_mut.result.now in let cs = c.args.chunks.now.items in
    let there = subst (λ xs. ItemsEnd (λ chunk. chunk.items) xs end.chunk end.within (c.args.place + 1)) c.deref.ensures.value c.end_of-end.ensures in
    let size = long (λ chunk. chunk.items) cs c.args.starts.now c.requires.starts in let inside = there.inside in omega arith

pub lower-requires-clause-some : goal.lower-requires-clause-some
lower-requires-clause-some g c =
    let end = c.end_of-end.result in let chunk = c.index_mut.result.now in let cs = c.args.chunks.now.items in
    let there = subst (λ xs. ItemsEnd (λ chunk. chunk.items) xs end.chunk end.within (c.args.place + 1)) c.deref.ensures.value c.end_of-end.ensures in
    starts_behind (λ chunk. chunk.items) cs c.args.starts.now c.requires.starts end.chunk end.within (c.args.place + 1) chunk there (there.some (omega arith))

pub drop_if_empty-requires-clause-starts : goal.drop_if_empty-requires-clause-starts
drop_if_empty-requires-clause-starts g c =
    let end = c.end_of-end.result in let chunk = c.index_mut.result.now in let cs = c.args.chunks.now.items in
    let there = subst (λ xs. ItemsEnd (λ chunk. chunk.items) xs end.chunk end.within (c.args.place + 1)) c.deref.ensures.value c.end_of-end.ensures in
    let (inside, is, at, reach) = found (λ chunk. chunk.items) cs c.args.place end.chunk end.within chunk there c.index_mut.ensures.value in
    let shorter : length chunk.items ≡ length c.remove-item.new.self.items + 1 = omega (arith, length-remove chunk.items (end.within - 1) reach, ap length c.remove-item.ensures.items) in
    c.lower.ensures ∙ ap (λ ss. take (end.chunk + 1) ss ++ map (λ start. start - 1) (drop (end.chunk + 1) ss)) c.requires.starts
    ∙ ap (λ k. take k (starts_from (λ chunk. chunk.items) 0 cs) ++ map (λ start. start - 1) (drop k (starts_from (λ chunk. chunk.items) 0 cs))) (let next : end.chunk + 1 ≡ suc end.chunk = omega arith in next)
    ∙ sym (starts-lowered (λ chunk. chunk.items) 0 cs end.chunk chunk c.remove-item.new.self inside is shorter)

pub drop_if_empty-requires-clause-fits : goal.drop_if_empty-requires-clause-fits
drop_if_empty-requires-clause-fits g c =
    let end = c.end_of-end.result in let chunk = c.index_mut.result.now in let cs = c.args.chunks.now.items in
    let there = subst (λ xs. ItemsEnd (λ chunk. chunk.items) xs end.chunk end.within (c.args.place + 1)) c.deref.ensures.value c.end_of-end.ensures in
    let is_in = found (λ chunk. chunk.items) cs c.args.place end.chunk end.within chunk there c.index_mut.ensures.value in
    let removed = remove-set (λ chunk. chunk.items) cs c.args.place end.chunk (end.within - 1) chunk c.remove-item.new.self is_in c.remove-item.ensures.items in
    let fits = c.requires.fits in
    omega (arith, ap length removed, length-remove (flat_map (λ chunk. chunk.items) cs) c.args.place c.requires.inside)

pub returns-clause-item : goal.returns-clause-item
returns-clause-item g c =
    let end = c.end_of-end.result in let chunk = c.index_mut.result.now in let cs = c.args.chunks.now.items in
    let there = subst (λ xs. ItemsEnd (λ chunk. chunk.items) xs end.chunk end.within (c.args.place + 1)) c.deref.ensures.value c.end_of-end.ensures in
    let is_in = found (λ chunk. chunk.items) cs c.args.place end.chunk end.within chunk there c.index_mut.ensures.value in
    item-at (λ chunk. chunk.items) cs c.args.place end.chunk (end.within - 1) chunk c.remove-item.result c.remove-item.result is_in c.remove-item.ensures.value

pub returns-clause-others : goal.returns-clause-others
returns-clause-others g c =
    let end = c.end_of-end.result in let chunk = c.index_mut.result.now in let cs = c.args.chunks.now.items in
    let there = subst (λ xs. ItemsEnd (λ chunk. chunk.items) xs end.chunk end.within (c.args.place + 1)) c.deref.ensures.value c.end_of-end.ensures in
    let is_in = found (λ chunk. chunk.items) cs c.args.place end.chunk end.within chunk there c.index_mut.ensures.value in
    c.drop_if_empty.ensures.same ∙ remove-set (λ chunk. chunk.items) cs c.args.place end.chunk (end.within - 1) chunk c.remove-item.new.self is_in c.remove-item.ensures.items
