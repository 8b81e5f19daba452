-- Counts over lists.
use Rattle.std.proofs.Common.{Bool, List, [], ap, arith, cond, count_by, false, length, refl, suc, true, zero, ℕ, ◌+◌, ◌∙◌, ◌∷◌, ◌≡◌, ◌≤◌}
use Rattle.std.specs.List.{AllWithin}
use Rattle.lists.proofs.ListsKit.{count_by-cons}

-- from the first place on at which a test passes it passes everywhere: the number of places
pub count_from : {X : Type 0} (p : X → Bool) (xs : List X) (i : ℕ) → AllWithin (λ x. p x ≡ false) xs 0 i → AllWithin (λ x. p x ≡ true) xs i (length xs) → i ≤ length xs → count_by p xs + i ≡ length xs
count_from p [] zero none all within = refl
count_from p [] (suc i) none all within = absurd (omega arith)
count_from p (x ∷ xs) zero none all within =
    let a = count_by-cons p x xs ∙ ap (λ b. cond {A = ℕ} b 1 0 + count_by p xs) (all 0 x (omega arith) (omega arith)) in
    let b = count_from p xs zero (λ k d h l. absurd (omega arith)) (λ k d h l. all (suc k) d (omega arith) (omega arith)) (omega arith) in
    omega arith
count_from p (x ∷ xs) (suc i) none all within =
    let a = count_by-cons p x xs ∙ ap (λ b. cond {A = ℕ} b 1 0 + count_by p xs) (none 0 x (omega arith) (omega arith)) in
    let b = count_from p xs i (λ k d h l. none (suc k) d (omega arith) (omega arith)) (λ k d h l. all (suc k) d (omega arith) (omega arith)) (omega arith) in
    omega arith
