use Rattle.std.proofs.Common.{arith, length, take, ◌-◌, ◌≡◌}
use Rattle.std.proofs.Math.Path.{ap, refl, subst, ◌∙◌}
use Rattle.std.proofs.lemmas.List.{length-take-le}
use Rattle.chunked_list.specs.Blocks.{Begins}
use Rattle.chunked_list.proofs.Resized.{long_shrunk, others_shrunk, same_base_popped}
use Rattle.chunked_list.proofs.Summed.{long}
use Rattle.chunked_list.proofs.starts.Starts.shrink.Goals as goal

pub returns-then-begins_block-clause-long : goal.returns-then-begins_block-clause-long
returns-then-begins_block-clause-long c =
    let bs = c.self.inside.blocks.items in let ws = c.self.inside.within.items in
    let popped : c.pop.new.self.items ≡ take (length ws - 1) ws = c.pop.ensures.rest ∙ ap (λ n. take (n - 1) ws) (let ok = c.self.inside.within.ok in let same : c.self.inside.within.len ≡ length ws = omega arith in same) in
    long_shrunk bs ws c.args.self.now c.self.view_is c.pop-then-begins_block.new.self.items c.pop.new.self.items c.requires popped

pub returns-then-begins_block-clause-others : goal.returns-then-begins_block-clause-others
returns-then-begins_block-clause-others c =
    let bs = c.self.inside.blocks.items in let ws = c.self.inside.within.items in
    let size = long bs ws c.args.self.now c.self.view_is in
    let popped : c.pop.new.self.items ≡ take (length ws - 1) ws = c.pop.ensures.rest ∙ ap (λ n. take (n - 1) ws) (let ok = c.self.inside.within.ok in let same : c.self.inside.within.len ≡ length ws = omega arith in same) in
    let fewer : c.pop-then-begins_block.new.self.items ≡ take (length bs - 1) bs = c.pop-then-begins_block.ensures.rest ∙ ap (λ n. take (n - 1) bs) (let ok = c.self.inside.blocks.ok in let same : c.self.inside.blocks.len ≡ length bs = omega arith in same) in
    let here : c.len.result ≡ length ws - 1 = (let len = c.len.ensures in let shorter = c.pop.ensures.len in let ok = c.self.inside.within.ok in let new = c.pop.new.self.ok in let some = c.requires in let fewer = c.pop.ensures.cases in let one = ap length popped in let two = length-take-le (length ws - 1) ws (omega arith) in omega arith) in
    others_shrunk bs ws c.args.self.now c.self.view_is c.pop-then-begins_block.new.self.items c.pop.new.self.items c.requires popped
    (same_base_popped bs ws c.pop-then-begins_block.new.self.items c.self.invariant (subst Begins here (c.begins_block.ensures.begins c.if-begins_block.true)) fewer)

pub returns-else-begins_block-clause-long : goal.returns-else-begins_block-clause-long
returns-else-begins_block-clause-long c =
    let bs = c.self.inside.blocks.items in let ws = c.self.inside.within.items in
    let popped : c.pop.new.self.items ≡ take (length ws - 1) ws = c.pop.ensures.rest ∙ ap (λ n. take (n - 1) ws) (let ok = c.self.inside.within.ok in let same : c.self.inside.within.len ≡ length ws = omega arith in same) in
    long_shrunk bs ws c.args.self.now c.self.view_is bs c.pop.new.self.items c.requires popped

pub returns-else-begins_block-clause-others : goal.returns-else-begins_block-clause-others
returns-else-begins_block-clause-others c =
    let bs = c.self.inside.blocks.items in let ws = c.self.inside.within.items in
    let size = long bs ws c.args.self.now c.self.view_is in
    let popped : c.pop.new.self.items ≡ take (length ws - 1) ws = c.pop.ensures.rest ∙ ap (λ n. take (n - 1) ws) (let ok = c.self.inside.within.ok in let same : c.self.inside.within.len ≡ length ws = omega arith in same) in
    others_shrunk bs ws c.args.self.now c.self.view_is bs c.pop.new.self.items c.requires popped (λ k below. refl)
