use Rattle.std.proofs.Common.{arith, drop, length, take, ◌+◌, ◌/◌, ◌<◌, ◌^◌}
use Rattle.std.specs.List.{flat_map}
use Rattle.std.proofs.Math.ListN.{set}
use Rattle.std.proofs.Math.Path.{ap, subst, sym, ◌∙◌}
use Rattle.std.proofs.lemmas.List.{length-set, take_rest}
use Rattle.std.proofs.lemmas.List.Edits.{length-insert}
use Rattle.chunked_list.specs.Starts.{starts_from}
use Rattle.chunked_list.proofs.FirstItems.{count_alike, counted_alike, long}
use Rattle.chunked_list.proofs.Joined.{alike_parted, same-split}
use Rattle.chunked_list.proofs.chunks.part.Goals as goal

pub start_of-start-requires : goal.start_of-start-requires
start_of-start-requires g c = let size = long (λ chunk. chunk.items) c.args.chunks.now.items c.args.starts.now c.requires.starts in let inside = c.requires.inside in omega arith

pub recount-requires-clause-long : goal.recount-requires-clause-long
recount-requires-clause-long g c =
    let cs = c.args.chunks.now.items in let i = c.args.chunk in let new = c.add_chunk.new.chunks.items in let half = c.len-half.result / 2 in
    let one = ap length c.deref-2.ensures.value ∙ length-set new i c.truncate.new.self in let two = ap length c.in_ok-add_chunk.ensures.chunks in let three = length-insert cs (i + 1) c.in_ok-upper.upper (let inside = c.requires.inside in omega arith) in
    let four = c.in_ok-add_chunk.ensures.long in let size = long (λ chunk. chunk.items) cs c.args.starts.now c.requires.starts in omega arith

pub recount-requires-clause-fits : goal.recount-requires-clause-fits
recount-requires-clause-fits g c =
    let cs = c.args.chunks.now.items in let i = c.args.chunk in let new = c.add_chunk.new.chunks.items in let half = c.len-half.result / 2 in
    let same = same-split (λ chunk. chunk.items) cs new i half c.index-2.result.now c.index_mut.result.now c.truncate.new.self c.in_ok-upper.upper c.requires.inside c.in_ok-add_chunk.ensures.chunks c.index-2.ensures c.index_mut.ensures.value c.truncate.ensures.items (c.in_ok-upper.ensures.items ∙ take_rest c.deref.result.now half ∙ ap (drop half) c.deref.ensures.value) in
    subst (λ xs. length xs < 2 ^ 64) (sym (ap (flat_map (λ chunk. chunk.items)) c.deref-2.ensures.value ∙ same)) c.requires.fits

pub recount-requires-clause-inside : goal.recount-requires-clause-inside
recount-requires-clause-inside g c =
    let cs = c.args.chunks.now.items in let i = c.args.chunk in let new = c.add_chunk.new.chunks.items in let half = c.len-half.result / 2 in
    let one = ap length c.deref-2.ensures.value ∙ length-set new i c.truncate.new.self in let two = ap length c.in_ok-add_chunk.ensures.chunks in let three = length-insert cs (i + 1) c.in_ok-upper.upper (let inside = c.requires.inside in omega arith) in
    let inside = c.requires.inside in omega arith

pub recount-requires-clause-count : goal.recount-requires-clause-count
recount-requires-clause-count g c =
    let cs = c.args.chunks.now.items in let i = c.args.chunk in let new = c.add_chunk.new.chunks.items in let half = c.len-half.result / 2 in
    let alike = alike_parted cs new i c.truncate.new.self c.in_ok-upper.upper c.requires.inside c.in_ok-add_chunk.ensures.chunks in
    c.start_of-start.ensures ∙ count_alike (λ chunk. chunk.items) cs c.args.starts.now c.requires.starts (set new i c.truncate.new.self) i alike c.requires.inside
    ∙ ap (λ xs. length (flat_map (λ chunk. chunk.items) (take i xs))) (sym c.deref-2.ensures.value)

pub recount-requires-clause-counted : goal.recount-requires-clause-counted
recount-requires-clause-counted g c = λ k below.
    let cs = c.args.chunks.now.items in let i = c.args.chunk in let new = c.add_chunk.new.chunks.items in let half = c.len-half.result / 2 in
    let alike = alike_parted cs new i c.truncate.new.self c.in_ok-upper.upper c.requires.inside c.in_ok-add_chunk.ensures.chunks in
    let size = long (λ chunk. chunk.items) cs c.args.starts.now c.requires.starts in let inside = c.requires.inside in
    counted_alike (λ chunk. chunk.items) cs c.args.starts.now c.requires.starts (set new i c.truncate.new.self) i c.add_chunk.new.starts alike (omega arith) (λ j under. c.in_ok-add_chunk.ensures.others j (omega arith)) k below
    ∙ ap (λ xs. length (flat_map (λ chunk. chunk.items) (take k xs))) (sym c.deref-2.ensures.value)

pub returns-clause-starts : goal.returns-clause-starts
returns-clause-starts g c = c.recount.ensures ∙ ap (starts_from (λ chunk. chunk.items) 0) c.deref-2.ensures.value

pub returns-clause-same : goal.returns-clause-same
returns-clause-same g c =
    let cs = c.args.chunks.now.items in let i = c.args.chunk in let new = c.add_chunk.new.chunks.items in let half = c.len-half.result / 2 in
    let same = same-split (λ chunk. chunk.items) cs new i half c.index-2.result.now c.index_mut.result.now c.truncate.new.self c.in_ok-upper.upper c.requires.inside c.in_ok-add_chunk.ensures.chunks c.index-2.ensures c.index_mut.ensures.value c.truncate.ensures.items (c.in_ok-upper.ensures.items ∙ take_rest c.deref.result.now half ∙ ap (drop half) c.deref.ensures.value) in
    same
