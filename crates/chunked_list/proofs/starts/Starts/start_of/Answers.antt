use Rattle.std.proofs.Common.{arith, length, ◌/◌, ◌∷◌, ◌<◌, ◌≡◌}
use Rattle.std.proofs.Math.ListN.{get_or}
use Rattle.std.proofs.Math.Path.{ap, ◌∙◌}
use Rattle.std.proofs.lemmas.List.{get_or_default}
use Rattle.chunked_list.proofs.Summed.{at, base, long}
use Rattle.chunked_list.proofs.starts.Starts.start_of.Goals as goal

pub before_block-requires : goal.before_block-requires
before_block-requires c =
    let size = long c.self.inside.blocks.items c.self.inside.within.items c.args.self.now c.self.view_is in
    let enough = c.self.invariant.enough in let same = ap length c.deref.ensures.value in let inside = c.requires in omega arith

pub index-requires : goal.index-requires
index-requires c =
    let size = long c.self.inside.blocks.items c.self.inside.within.items c.args.self.now c.self.view_is in
    let inside = c.requires in let all = c.self.inside.within.ok in omega arith

pub overflow_add-result : goal.overflow_add-result
overflow_add-result c =
    let bs = c.self.inside.blocks.items in let ws = c.self.inside.within.items in
    let size = long bs ws c.args.self.now c.self.view_is in
    let inside : c.args.chunk < length ws = (let there = c.requires in omega arith) in
    let one : c.before_block.result ≡ base bs c.args.chunk = c.before_block.ensures ∙ ap (λ xs. get_or (0 ∷ xs) (c.args.chunk / 64) 0) c.deref.ensures.value in
    let two = c.index.ensures ∙ get_or_default ws c.args.chunk c.index.result.now 0 inside in
    let fits = c.self.invariant.fits c.args.chunk inside in omega arith

pub returns : goal.returns
returns c =
    let bs = c.self.inside.blocks.items in let ws = c.self.inside.within.items in
    let size = long bs ws c.args.self.now c.self.view_is in
    let inside : c.args.chunk < length ws = (let there = c.requires in omega arith) in
    let one : c.before_block.result ≡ base bs c.args.chunk = c.before_block.ensures ∙ ap (λ xs. get_or (0 ∷ xs) (c.args.chunk / 64) 0) c.deref.ensures.value in
    let two = c.index.ensures ∙ get_or_default ws c.args.chunk c.index.result.now 0 inside in
    let sum = at bs ws c.args.self.now c.self.view_is c.args.chunk 0 inside in omega arith
