-- The items from a place on moved by one, and another put there.
use Rattle.std.proofs.Common.{arith, List, [], ◌++◌, ◌+◌, ◌∷◌, ◌≡◌, ap, drop, insert, length, refl, set, subst, suc, sym, take, zero, ℕ, ◌∙◌}
use Rattle.std.proofs.lemmas.List.{append-nil}

-- without the item behind a list its own remain
first : {X : Type 0} (xs : List X) (y : X) → take (length xs) (xs ++ y ∷ []) ≡ xs
first [] y = refl
first (x ∷ xs) y = ap (λ ys. x ∷ ys) (first xs y)

none_behind : {X : Type 0} (xs : List X) (y : X) → drop (suc (length xs)) (xs ++ y ∷ []) ≡ []
none_behind [] y = refl
none_behind (x ∷ xs) y = none_behind xs y

-- The list has one item more at its end. The n items from place k on are copied one place on, and x is put at place k.
pub put_among : {X : Type 0} (xs : List X) (k n : ℕ) (x y : X) → k + n ≡ length xs →
    set ((take (suc k) (xs ++ y ∷ []) ++ take n (drop k (xs ++ y ∷ []))) ++ drop (suc (length xs)) (xs ++ y ∷ [])) k x ≡ insert xs k x
put_among [] zero n x y h = ap (λ m. set ((y ∷ take m (y ∷ [])) ++ []) 0 x) (let none : n ≡ 0 = omega (arith, h) in none)
put_among (z ∷ xs) zero n x y h =
    let all : n ≡ suc (length xs) = omega (arith, h) in
    ap (λ m. x ∷ take m (z ∷ xs ++ y ∷ []) ++ drop (suc (length xs)) (xs ++ y ∷ [])) all
    ∙ ap (λ ys. x ∷ (z ∷ ys) ++ drop (suc (length xs)) (xs ++ y ∷ [])) (first xs y)
    ∙ ap (λ ys. x ∷ (z ∷ xs) ++ ys) (none_behind xs y) ∙ ap (λ ys. x ∷ ys) (append-nil (z ∷ xs))
put_among (z ∷ xs) (suc k) n x y h = ap (λ ys. z ∷ ys) (put_among xs k n x y (omega (arith, h)))
put_among [] (suc k) n x y h = absurd (omega (arith, h))
