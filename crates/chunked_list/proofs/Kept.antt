-- Items that pass a test are kept, the others taken out, one after another.
use Rattle.std.proofs.Common.{arith, Bool, List, [], ◌++◌, ◌+◌, ◌∷◌, ◌<◌, ◌≡◌, cond, drop, false, filter, length, remove, suc, take, true, zero, ℕ}
use Rattle.std.proofs.Math.ListN.{get_or}
use Rattle.std.proofs.Math.Path.{ap, refl, sym, ◌∙◌}
use Rattle.std.proofs.lemmas.List.{drop_more, take-append-drop, take_more}
use Rattle.std.proofs.lemmas.List.Elements.{filter-append}

filter-one : {X : Type 0} (p : X → Bool) (x : X) → p x ≡ true → filter p (x ∷ []) ≡ x ∷ []
filter-one p x passes = ap (λ b. cond b (x ∷ []) []) passes

pub kept-more : {X : Type 0} (p : X → Bool) (xs : List X) (i : ℕ) (d : X) → i < length xs → p (get_or xs i d) ≡ true →
    filter p (take i xs) ≡ take i xs → filter p (take (i + 1) xs) ≡ take (i + 1) xs
kept-more p xs i d inside passes kept =
    ap (filter p) (take_more xs i d inside) ∙ filter-append p (take i xs) (get_or xs i d ∷ [])
    ∙ ap (λ ys. ys ++ filter p (get_or xs i d ∷ [])) kept ∙ ap (λ ys. take i xs ++ ys) (filter-one p (get_or xs i d) passes)
    ∙ sym (take_more xs i d inside)

filter-none : {X : Type 0} (p : X → Bool) (x : X) (xs : List X) → p x ≡ false → filter p (x ∷ xs) ≡ filter p xs
filter-none p x xs fails = ap (λ b. cond b (x ∷ filter p xs) (filter p xs)) fails

pub same-without : {X : Type 0} (p : X → Bool) (xs : List X) (i : ℕ) (d : X) → i < length xs → p (get_or xs i d) ≡ false →
    filter p (remove xs i) ≡ filter p xs
same-without p xs i d inside fails =
    let next : i + 1 ≡ suc i = omega arith in
    let rest : drop i xs ≡ get_or xs i d ∷ drop (suc i) xs = drop_more xs i d inside ∙ ap (λ n. get_or xs i d ∷ drop n xs) next in
    filter-append p (take i xs) (drop (suc i) xs)
    ∙ ap (λ ys. filter p (take i xs) ++ ys) (sym (ap (filter p) rest ∙ filter-none p (get_or xs i d) (drop (suc i) xs) fails))
    ∙ sym (filter-append p (take i xs) (drop i xs)) ∙ ap (filter p) (take-append-drop i xs)

pub take-without : {X : Type 0} (xs : List X) (i : ℕ) → take i (remove xs i) ≡ take i xs
take-without [] zero = refl
take-without [] (suc i) = refl
take-without (x ∷ xs) zero = refl
take-without (x ∷ xs) (suc i) = ap (λ ys. x ∷ ys) (take-without xs i)
