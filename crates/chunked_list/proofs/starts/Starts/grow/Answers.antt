use Rattle.std.proofs.Common.{arith, rules, length, [], ◌++◌, ◌∷◌, ◌≡◌}
use Rattle.std.proofs.Math.Path.{refl, subst}
use Rattle.chunked_list.specs.Blocks.{Begins}
use Rattle.chunked_list.proofs.Resized.{blocks_grown, long_grown, others_grown}
use Rattle.chunked_list.proofs.Summed.{long}
use Rattle.chunked_list.proofs.starts.Starts.grow.Goals as goal

pub grow_by_block-requires : goal.grow_by_block-requires
grow_by_block-requires c =
    let size = long c.self.inside.blocks.items c.self.inside.within.items c.args.self.now c.self.view_is in
    let same : c.len.result ≡ length c.args.self.now = (let len = c.len.ensures in let ok = c.self.inside.within.ok in omega arith) in
    subst Begins same (c.begins_block.ensures.begins c.if-begins_block.true)

pub invariant_of-self-2 : goal.invariant_of-self-2
invariant_of-self-2 c =
    let bs = c.self.inside.blocks.items in let ws = c.self.inside.within.items in
    let two : c.push.new.self.items ≡ ws ++ 0 ∷ [] = search rules in
    let same : length ws ≡ c.len.result = (let len = c.len.ensures in let ok = c.self.inside.within.ok in omega arith) in
    blocks_grown bs ws c.push.new.self.items c.self.invariant (λ begins. c.begins_block.ensures.goes_on c.if-begins_block.false (subst Begins same begins)) two

pub returns-clause-long : goal.returns-clause-long
returns-clause-long c =
    let bs = c.self.inside.blocks.items in let ws = c.self.inside.within.items in
    let two : c.push.new.self.items ≡ ws ++ 0 ∷ [] = search rules in
    long_grown bs ws c.args.self.now c.self.view_is bs c.push.new.self.items two

pub returns-clause-others : goal.returns-clause-others
returns-clause-others c =
    let bs = c.self.inside.blocks.items in let ws = c.self.inside.within.items in
    let two : c.push.new.self.items ≡ ws ++ 0 ∷ [] = search rules in
    others_grown bs ws c.args.self.now c.self.view_is bs c.push.new.self.items two (λ k. refl)
