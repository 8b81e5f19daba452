use Rattle.std.proofs.Common.{arith, ap, drop, length, set, suc, take, ◌+◌, ◌++◌, ◌-◌, ◌∷◌, ◌≡◌, [], ◌∙◌}
use Rattle.chunked_list.proofs.Moved.{put_among}
use Rattle.chunked_list.proofs.chunks.put_before.Goals as goal

pub returns-in-Ok-clause-done : goal.returns-in-Ok-clause-done
returns-in-Ok-clause-done g c =
    let k = c.args.place in let x = c.args.item in let xs = c.args.chunk.now.items in
    let within = c.requires in
    let end : c.len-end.result ≡ length xs = (let ok = c.args.chunk.now.ok in omega (arith, c.len-end.ensures)) in
    let next : k + 1 ≡ suc k = omega arith in
    let last : k + 1 + (c.len-end.result - k) ≡ suc (length xs) = omega arith in
    ap (λ ys. set ys k x)
    (c.copy_within.ensures.items
    ∙ ap (λ ys. (take (k + 1) ys ++ take (c.len-end.result - k) (drop k ys)) ++ drop (k + 1 + (c.len-end.result - k)) ys) c.in-Ok.ensures.items
    ∙ ap (λ at. (take at (xs ++ x ∷ []) ++ take (c.len-end.result - k) (drop k (xs ++ x ∷ []))) ++ drop (k + 1 + (c.len-end.result - k)) (xs ++ x ∷ [])) next
    ∙ ap (λ at. (take (suc k) (xs ++ x ∷ []) ++ take (c.len-end.result - k) (drop k (xs ++ x ∷ []))) ++ drop at (xs ++ x ∷ [])) last)
    ∙ put_among xs k (c.len-end.result - k) x x (omega arith)
