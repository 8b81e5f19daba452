use Rattle.std.proofs.Common.{rules, [], ◌++◌, ◌∷◌, ◌≡◌}
use Rattle.std.proofs.Math.Path.{subst}
use Rattle.chunked_list.specs.Blocks.{Begins}
use Rattle.chunked_list.proofs.Resized.{blocks_grown_by_block, long_grown, others_grown, same_base_pushed}
use Rattle.chunked_list.proofs.Summed.{long}
use Rattle.chunked_list.proofs.starts.Starts.grow_by_block.Goals as goal

pub invariant_of-self-else-is_err-2 : goal.invariant_of-self-else-is_err-2
invariant_of-self-else-is_err-2 c =
    let bs = c.self.inside.blocks.items in let ws = c.self.inside.within.items in
    let one : c.push.new.self.items ≡ bs ++ 0 ∷ [] = search rules in let two : c.push-2.new.self.items ≡ ws ++ 0 ∷ [] = search rules in
    let begins = subst Begins (long bs ws c.args.self.now c.self.view_is) c.requires in
    blocks_grown_by_block bs ws c.push.new.self.items c.push-2.new.self.items c.self.invariant begins one two

pub returns-clause-long : goal.returns-clause-long
returns-clause-long c =
    let bs = c.self.inside.blocks.items in let ws = c.self.inside.within.items in
    let two : c.push-2.new.self.items ≡ ws ++ 0 ∷ [] = search rules in
    long_grown bs ws c.args.self.now c.self.view_is c.push.new.self.items c.push-2.new.self.items two

pub returns-clause-others : goal.returns-clause-others
returns-clause-others c =
    let bs = c.self.inside.blocks.items in let ws = c.self.inside.within.items in
    let one : c.push.new.self.items ≡ bs ++ 0 ∷ [] = search rules in let two : c.push-2.new.self.items ≡ ws ++ 0 ∷ [] = search rules in
    others_grown bs ws c.args.self.now c.self.view_is c.push.new.self.items c.push-2.new.self.items two (same_base_pushed bs c.push.new.self.items one)
