use Rattle.std.proofs.Common.{arith, length, take, [], ◌<◌, ◌≡◌, ◌^◌}
use Rattle.std.specs.List.{flat_map}
use Rattle.std.proofs.Math.Path.{ap, subst, sym, ◌∙◌}
use Rattle.std.proofs.lemmas.Grind.{common_steps}
use Rattle.std.proofs.lemmas.List.Edits.{length-remove}
use Rattle.chunked_list.specs.Starts.{starts_from}
use Rattle.chunked_list.proofs.FirstItems.{count_alike, counted_alike, long}
use Rattle.chunked_list.proofs.Joined.{alike_dropped, same-dropped}
use Rattle.chunked_list.proofs.chunks.drop_if_empty.Goals as goal

pub start_of-start-requires : goal.start_of-start-requires
start_of-start-requires g c = let size = long (λ chunk. chunk.items) c.args.chunks.now.items c.args.starts.now c.requires.starts in let inside = c.requires.inside in omega arith

pub shrink-requires : goal.shrink-requires
shrink-requires g c = let size = long (λ chunk. chunk.items) c.args.chunks.now.items c.args.starts.now c.requires.starts in let inside = c.requires.inside in omega arith

pub recount-requires-clause-long : goal.recount-requires-clause-long
recount-requires-clause-long g c =
    let cs = c.args.chunks.now.items in
    let size = long (λ chunk. chunk.items) cs c.args.starts.now c.requires.starts in let inside = c.requires.inside in
    let one = ap length c.deref.ensures.value in let two = ap length c.remove.ensures.items in let three = length-remove cs c.args.chunk c.requires.inside in let four = c.shrink.ensures.long in omega arith

pub recount-requires-clause-fits : goal.recount-requires-clause-fits
recount-requires-clause-fits g c =
    let cs = c.args.chunks.now.items in
    let none : c.index.result.now.items ≡ [] = grind (arith, common_steps, c.is_empty.ensures, c.if-not-is_empty.false) in
    let same = ap (flat_map (λ chunk. chunk.items)) c.deref.ensures.value ∙ ap (flat_map (λ chunk. chunk.items)) c.remove.ensures.items ∙ same-dropped (λ chunk. chunk.items) cs c.args.chunk c.index.result.now c.requires.inside c.index.ensures none in
    subst (λ xs. length xs < 2 ^ 64) (sym same) c.requires.fits

pub recount-requires-clause-inside : goal.recount-requires-clause-inside
recount-requires-clause-inside g c =
    let inside = c.requires.inside in
    let one = ap length c.deref.ensures.value in let two = ap length c.remove.ensures.items in let three = length-remove c.args.chunks.now.items c.args.chunk c.requires.inside in omega arith

pub recount-requires-clause-count : goal.recount-requires-clause-count
recount-requires-clause-count g c =
    let cs = c.args.chunks.now.items in let i = c.args.chunk in let new = c.remove.new.self.items in
    c.start_of-start.ensures ∙ count_alike (λ chunk. chunk.items) cs c.args.starts.now c.requires.starts new i (alike_dropped cs new i c.remove.ensures.items) c.requires.inside
    ∙ ap (λ xs. length (flat_map (λ chunk. chunk.items) (take i xs))) (sym c.deref.ensures.value)

pub recount-requires-clause-counted : goal.recount-requires-clause-counted
recount-requires-clause-counted g c = λ k below.
    let cs = c.args.chunks.now.items in let i = c.args.chunk in let new = c.remove.new.self.items in
    let size = long (λ chunk. chunk.items) cs c.args.starts.now c.requires.starts in let inside = c.requires.inside in let shorter = c.shrink.ensures.long in
    counted_alike (λ chunk. chunk.items) cs c.args.starts.now c.requires.starts new i c.shrink.new.self (alike_dropped cs new i c.remove.ensures.items) (omega arith) (λ j under. c.shrink.ensures.others j (omega arith)) k below
    ∙ ap (λ xs. length (flat_map (λ chunk. chunk.items) (take k xs))) (sym c.deref.ensures.value)

pub returns-clause-starts : goal.returns-clause-starts
returns-clause-starts g c = c.recount.ensures ∙ ap (starts_from (λ chunk. chunk.items) 0) c.deref.ensures.value

pub returns-clause-same : goal.returns-clause-same
returns-clause-same g c =
    let none : c.index.result.now.items ≡ [] = grind (arith, common_steps, c.is_empty.ensures, c.if-not-is_empty.false) in
    ap (flat_map (λ chunk. chunk.items)) c.remove.ensures.items ∙ same-dropped (λ chunk. chunk.items) c.args.chunks.now.items c.args.chunk c.index.result.now c.requires.inside c.index.ensures none
