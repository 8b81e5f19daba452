use Rattle.std.proofs.Common.{arith, ap, drop, length, map, insert, suc, take, ◌+◌, ◌++◌, ◌<◌, ◌≡◌, ◌≤◌, ◌^◌}
use Rattle.std.proofs.Math.Path.{subst, sym, ◌∙◌}
use Rattle.std.proofs.lemmas.List.Edits.{length-insert}
use Rattle.chunked_list.specs.Starts.{starts_from}
use Rattle.chunked_list.proofs.FirstItems.{long, starts_fit}
use Rattle.chunked_list.proofs.Fronts.{starts-raised, starts-set}
use Rattle.chunked_list.proofs.Joined.{insert-set, same-set}
use Rattle.chunked_list.proofs.chunks.put_in.Goals as goal

pub raise-requires-clause-inside : goal.raise-requires-clause-inside
raise-requires-clause-inside g c = let size = long (λ chunk. chunk.items) c.end_with_room.new.chunks.items c.end_with_room.new.starts c.in_ok-end.ensures.starts in let inside = c.in_ok-end.ensures.end.inside in omega arith

pub raise-requires-clause-fits : goal.raise-requires-clause-fits
raise-requires-clause-fits g c =
    let cs = c.end_with_room.new.chunks.items in
    starts_fit (λ chunk. chunk.items) cs c.end_with_room.new.starts c.in_ok-end.ensures.starts
    (subst (λ xs. length xs + 1 < 2 ^ 64) (sym c.in_ok-end.ensures.same) c.requires.fits)

pub returns-in-Ok-clause-starts : goal.returns-in-Ok-clause-starts
returns-in-Ok-clause-starts g c =
    let end = c.in_ok-end.end in let chunk = c.index_mut.result.now in let cs = c.end_with_room.new.chunks.items in
    let reach : end.within ≤ length chunk.items = subst (λ y. end.within ≤ length y.items) (sym c.index_mut.ensures.value) (c.in_ok-end.ensures.end.reach chunk) in
    let longer : length c.put_before.new.chunk.items ≡ length chunk.items + 1 = omega (arith, ap length c.in-Ok.ensures.done, length-insert chunk.items end.within c.args.item reach) in
    c.raise.ensures ∙ ap (λ ss. take (end.chunk + 1) ss ++ map (λ start. start + 1) (drop (end.chunk + 1) ss)) c.in_ok-end.ensures.starts
    ∙ ap (λ k. take k (starts_from (λ chunk. chunk.items) 0 cs) ++ map (λ start. start + 1) (drop k (starts_from (λ chunk. chunk.items) 0 cs))) (let next : end.chunk + 1 ≡ suc end.chunk = omega arith in next)
    ∙ sym (starts-raised (λ chunk. chunk.items) 0 cs end.chunk chunk c.put_before.new.chunk c.in_ok-end.ensures.end.inside c.index_mut.ensures.value longer)

pub returns-in-Ok-clause-done : goal.returns-in-Ok-clause-done
returns-in-Ok-clause-done g c =
    let end = c.in_ok-end.end in let chunk = c.index_mut.result.now in let cs = c.end_with_room.new.chunks.items in
    insert-set (λ chunk. chunk.items) cs c.args.place end.chunk end.within chunk c.put_before.new.chunk c.args.item c.in_ok-end.ensures.end c.index_mut.ensures.value c.in-Ok.ensures.done
    ∙ ap (λ xs. insert xs c.args.place c.args.item) c.in_ok-end.ensures.same

pub returns-in-Err-clause-starts : goal.returns-in-Err-clause-starts
returns-in-Err-clause-starts g c =
    let end = c.in_ok-end.end in let chunk = c.index_mut.result.now in let cs = c.end_with_room.new.chunks.items in
    c.in_ok-end.ensures.starts ∙ sym (starts-set (λ chunk. chunk.items) 0 cs end.chunk chunk c.put_before.new.chunk c.in_ok-end.ensures.end.inside c.index_mut.ensures.value (ap length c.in-Err.ensures.kept))

pub returns-in-Err-clause-kept : goal.returns-in-Err-clause-kept
returns-in-Err-clause-kept g c =
    let end = c.in_ok-end.end in let chunk = c.index_mut.result.now in let cs = c.end_with_room.new.chunks.items in
    same-set (λ chunk. chunk.items) cs end.chunk chunk c.put_before.new.chunk c.in_ok-end.ensures.end.inside c.index_mut.ensures.value c.in-Err.ensures.kept ∙ c.in_ok-end.ensures.same
