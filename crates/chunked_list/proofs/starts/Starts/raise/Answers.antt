use Rattle.std.proofs.Common.{arith, drop, length, map, take, ◌++◌, ◌+◌, ◌/◌, ◌∷◌, ◌≡◌, ◌≤◌}
use Rattle.std.proofs.Math.ListN.{get_or}
use Rattle.std.proofs.Math.Path.{ap, subst, sym, ◌∙◌}
use Rattle.std.proofs.lemmas.List.{append-nil, drop_all, take_all, with_items_is}
use Rattle.std.specs.Vec.{with_items}
use Rattle.chunked_list.specs.Blocks.{AreBlocks, AreChanged, IsEndOfBlock, sums_from}
use Rattle.chunked_list.proofs.Summed.{blocks_changed, blocks_fit, long, of_both, sums_changed, sums_fit, within_fit}
use Rattle.chunked_list.proofs.starts.Starts.raise.Goals as goal

pub end_of_block-end-requires : goal.end_of_block-end-requires
end_of_block-end-requires c =
    let size = long c.self.inside.blocks.items c.self.inside.within.items c.args.self.now c.self.view_is in
    let inside = c.requires.inside in let len = c.len-chunks.ensures in let all = c.self.inside.within.ok in omega arith

pub raise_each-requires-clause-order : goal.raise_each-requires-clause-order
raise_each-requires-clause-order c = let behind = c.end_of_block-end.ensures.behind in omega arith

pub raise_each-requires-clause-fits : goal.raise_each-requires-clause-fits
raise_each-requires-clause-fits c =
    let bs = c.self.inside.blocks.items in let ws = c.self.inside.within.items in
    let all : c.len-chunks.result ≡ length ws = (let len = c.len-chunks.ensures in let ok = c.self.inside.within.ok in omega arith) in
    let ends = subst (λ n. IsEndOfBlock c.args.chunk n c.end_of_block-end.result) all c.end_of_block-end.ensures in
    λ k up below. let size = long bs ws c.args.self.now c.self.view_is in let most = ends.most in
    let fit = within_fit bs ws c.args.self.now c.self.view_is c.self.invariant c.requires.fits k (omega arith) in let same = ap (λ xs. get_or xs k 0) c.deref_mut.ensures.value in omega arith

pub raise_each-requires-2-clause-order : goal.raise_each-requires-2-clause-order
raise_each-requires-2-clause-order c =
    let size = long c.self.inside.blocks.items c.self.inside.within.items c.args.self.now c.self.view_is in
    let inside = c.requires.inside in let enough = c.self.invariant.enough in let len = c.len-blocks.ensures in let all = c.self.inside.blocks.ok in omega arith

pub raise_each-requires-2-clause-fits : goal.raise_each-requires-2-clause-fits
raise_each-requires-2-clause-fits c =
    let bs = c.self.inside.blocks.items in let ws = c.self.inside.within.items in
    let all : c.len-chunks.result ≡ length ws = (let len = c.len-chunks.ensures in let ok = c.self.inside.within.ok in omega arith) in
    let ends = subst (λ n. IsEndOfBlock c.args.chunk n c.end_of_block-end.result) all c.end_of_block-end.ensures in
    λ j up below. let fit = blocks_fit bs ws c.args.self.now c.self.view_is c.self.invariant c.requires.fits j (let len = c.len-blocks.ensures in let all = c.self.inside.blocks.ok in omega arith) in
    let same = ap (λ xs. get_or xs j 0) c.deref_mut-2.ensures.value in omega arith

pub invariant_of-self : goal.invariant_of-self
invariant_of-self c =
    let bs = c.self.inside.blocks.items in let ws = c.self.inside.within.items in
    let all : c.len-chunks.result ≡ length ws = (let len = c.len-chunks.ensures in let ok = c.self.inside.within.ok in omega arith) in
    let ends = subst (λ n. IsEndOfBlock c.args.chunk n c.end_of_block-end.result) all c.end_of_block-end.ensures in
    let ss = c.args.self.now in
    let new_ws = c.raise_each.new.numbers in let new_bs = c.raise_each-2.new.numbers in
    let many : c.len-blocks.result ≡ length bs = (let len = c.len-blocks.ensures in let ok = c.self.inside.blocks.ok in omega arith) in
    let ws_are = subst (λ xs. AreChanged (λ n. n + 1) (c.args.chunk + 1) c.end_of_block-end.result xs new_ws) c.deref_mut.ensures.value c.raise_each.ensures in
    let bs_are = subst (λ n. AreChanged (λ n. n + 1) (c.args.chunk / 64) n bs new_bs) many (subst (λ xs. AreChanged (λ n. n + 1) (c.args.chunk / 64) c.len-blocks.result xs new_bs) c.deref_mut-2.ensures.value c.raise_each-2.ensures) in
    of_both AreBlocks (with_items c.self.inside.blocks new_bs).items new_bs (with_items c.self.inside.within new_ws).items new_ws
    (with_items_is c.self.inside.blocks new_bs (let same = bs_are.long in let ok = c.self.inside.blocks.ok in omega arith)) (with_items_is c.self.inside.within new_ws (let same = ws_are.long in let ok = c.self.inside.within.ok in omega arith))
    (blocks_changed (λ n. n + 1) c.args.chunk c.end_of_block-end.result bs ws new_bs new_ws c.self.invariant ends ws_are bs_are
    (λ k behind below. omega arith)
    (λ k past inside. omega arith)
    (λ k inside. let fit = sums_fit bs ws ss c.self.view_is c.self.invariant c.requires.fits k inside in omega arith))

pub returns : goal.returns
returns c =
    let bs = c.self.inside.blocks.items in let ws = c.self.inside.within.items in
    let all : c.len-chunks.result ≡ length ws = (let len = c.len-chunks.ensures in let ok = c.self.inside.within.ok in omega arith) in
    let ends = subst (λ n. IsEndOfBlock c.args.chunk n c.end_of_block-end.result) all c.end_of_block-end.ensures in
    let ss = c.args.self.now in
    let new_ws = c.raise_each.new.numbers in let new_bs = c.raise_each-2.new.numbers in
    let many : c.len-blocks.result ≡ length bs = (let len = c.len-blocks.ensures in let ok = c.self.inside.blocks.ok in omega arith) in
    let ws_are = subst (λ xs. AreChanged (λ n. n + 1) (c.args.chunk + 1) c.end_of_block-end.result xs new_ws) c.deref_mut.ensures.value c.raise_each.ensures in
    let bs_are = subst (λ n. AreChanged (λ n. n + 1) (c.args.chunk / 64) n bs new_bs) many (subst (λ xs. AreChanged (λ n. n + 1) (c.args.chunk / 64) c.len-blocks.result xs new_bs) c.deref_mut-2.ensures.value c.raise_each-2.ensures) in
    ap (λ xs. sums_from (0 ∷ xs) 0 (with_items c.self.inside.within new_ws).items) (with_items_is c.self.inside.blocks new_bs (let same = bs_are.long in let ok = c.self.inside.blocks.ok in omega arith))
    ∙ ap (λ xs. sums_from (0 ∷ new_bs) 0 xs) (with_items_is c.self.inside.within new_ws (let same = ws_are.long in let ok = c.self.inside.within.ok in omega arith))
    ∙ sums_changed (λ n. n + 1) c.args.chunk c.end_of_block-end.result bs ws new_bs new_ws c.self.invariant ends ws_are bs_are
    (λ k behind below. omega arith)
    (λ k past inside. omega arith)
    ∙ ap (λ xs. take (c.args.chunk + 1) xs ++ map (λ start. start + 1) (drop (c.args.chunk + 1) xs)) c.self.view_is

pub overflow_add-chunk : goal.overflow_add-chunk
overflow_add-chunk c =
    let size = long c.self.inside.blocks.items c.self.inside.within.items c.args.self.now c.self.view_is in
    let inside = c.requires.inside in let len = c.len-chunks.ensures in let fits = c.len-chunks.type_inv in let ok = c.self.inside.within.ok in omega arith

pub returns-then-chunk-chunks : goal.returns-then-chunk-chunks
returns-then-chunk-chunks c =
    let ss = c.args.self.now in let next = c.args.chunk + 1 in
    let size = long c.self.inside.blocks.items c.self.inside.within.items ss c.self.view_is in
    let last = c.if-chunk-chunks.true in let len = c.len-chunks.ensures in let ok = c.self.inside.within.ok in
    let all : length ss ≤ next = omega arith in
    let whole : ss ≡ take next ss ++ map (λ start. start + 1) (drop next ss) =
    sym (ap (λ xs. take next ss ++ map (λ start. start + 1) xs) (drop_all next ss all) ∙ append-nil (take next ss) ∙ take_all next ss all) in
    whole
