use Rattle.std.proofs.Common.{arith, length, [], ◌≡◌}
use Rattle.std.specs.List.{flat_map}
use Rattle.std.proofs.Math.Path.{ap, ◌∙◌}
use Rattle.std.proofs.lemmas.Grind.{common_steps}
use Rattle.std.proofs.lemmas.List.Edits.{length-insert}
use Rattle.chunked_list.specs.Starts.{starts_from}
use Rattle.chunked_list.proofs.FirstItems.{long}
use Rattle.chunked_list.proofs.Joined.{same_begun}
use Rattle.chunked_list.proofs.chunks.begin.Goals as goal

pub recount-requires-clause-long : goal.recount-requires-clause-long
recount-requires-clause-long g c =
    let cs = c.args.chunks.now.items in let size = long (λ chunk. chunk.items) cs c.args.starts.now c.requires in
    let one = ap length c.deref.ensures.value in let two = ap length c.in_ok-add_chunk.ensures.chunks in let three = length-insert cs 0 c.new.result (omega arith) in
    let four = c.in_ok-add_chunk.ensures.long in omega arith

pub recount-requires-clause-fits : goal.recount-requires-clause-fits
recount-requires-clause-fits g c =
    let cs = c.args.chunks.now.items in
    let none : cs ≡ [] = grind (arith, common_steps, c.is_empty.ensures, c.if-not-is_empty.false) in
    let same = ap (flat_map (λ chunk. chunk.items)) c.deref.ensures.value ∙ same_begun (λ chunk. chunk.items) cs c.add_chunk.new.chunks.items c.new.result c.in_ok-add_chunk.ensures.chunks c.new.ensures.items ∙ ap (flat_map (λ chunk. chunk.items)) none in
    let size = ap length same in omega arith

pub recount-requires-clause-counted : goal.recount-requires-clause-counted
recount-requires-clause-counted g c = λ k below. absurd (omega arith)

pub returns-clause-starts : goal.returns-clause-starts
returns-clause-starts g c = c.recount.ensures ∙ ap (starts_from (λ chunk. chunk.items) 0) c.deref.ensures.value

pub returns-clause-same : goal.returns-clause-same
returns-clause-same g c = same_begun (λ chunk. chunk.items) c.args.chunks.now.items c.add_chunk.new.chunks.items c.new.result c.in_ok-add_chunk.ensures.chunks c.new.ensures.items
