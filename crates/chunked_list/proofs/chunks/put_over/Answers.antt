use Rattle.std.proofs.Common.{◌+◌, ◌-◌}
use Rattle.std.proofs.Math.Path.{refl, subst, sym, ◌∙◌}
use Rattle.std.proofs.lemmas.List.{length-set}
use Rattle.std.specs.Vec.{with_item}
use Rattle.chunked_list.specs.Starts.{ItemsEnd}
use Rattle.chunked_list.proofs.Fronts.{starts-set}
use Rattle.chunked_list.proofs.Joined.{found, set-set}
use Rattle.chunked_list.proofs.chunks.put_over.Goals as goal

pub returns-clause-starts : goal.returns-clause-starts
returns-clause-starts g c =
    let end = c.end_of-end.result in let chunk = c.index_mut.result.now in let cs = c.args.chunks.now.items in
    let there = subst (λ xs. ItemsEnd (λ chunk. chunk.items) xs end.chunk end.within (c.args.place + 1)) c.deref.ensures.value c.end_of-end.ensures in
    c.requires.starts ∙ sym (starts-set (λ chunk. chunk.items) 0 cs end.chunk chunk (with_item chunk (end.within - 1) c.args.item) there.inside c.index_mut.ensures.value (length-set chunk.items (end.within - 1) c.args.item))

pub returns-clause-items : goal.returns-clause-items
returns-clause-items g c =
    let end = c.end_of-end.result in let chunk = c.index_mut.result.now in let cs = c.args.chunks.now.items in
    let there = subst (λ xs. ItemsEnd (λ chunk. chunk.items) xs end.chunk end.within (c.args.place + 1)) c.deref.ensures.value c.end_of-end.ensures in
    let is_in = found (λ chunk. chunk.items) cs c.args.place end.chunk end.within chunk there c.index_mut.ensures.value in
    set-set (λ chunk. chunk.items) cs c.args.place end.chunk (end.within - 1) chunk (with_item chunk (end.within - 1) c.args.item) c.args.item is_in refl
