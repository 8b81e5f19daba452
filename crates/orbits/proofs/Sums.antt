-- Sums over lists that share out the numbers below a bound.
use Rattle.std.proofs.Common.{◌≡◌, ℕ, zero, suc, ◌+◌, ◌*◌, ◌<◌, List, [], ◌∷◌, get_or, All, Bool, true, false, cond, refl, sym, ap, ◌∙◌, arith, ⊎_elim, count_by, sum_by, eqb}
use Rattle.std.proofs.lemmas.Bool.{cases_lt, eq-eqb, lt-ltb}
use Rattle.std.proofs.lemmas.List.{get_or_default}
use Rattle.std.proofs.lemmas.List.Sums.{sum_by-cons}
use Rattle.orbits.specs.Once.{HoldEachOnce}
use Rattle.orbits.specs.OnceLaws.{sum_below}
use Rattle.orbits.proofs.Members.{differs, held_below}

plus : (f g : ℕ → ℕ) (n : ℕ) → sum_below (λ k. f k + g k) n ≡ sum_below f n + sum_below g n
plus f g zero = refl
plus f g (suc n) = let rest = plus f g n in omega arith

same : (f g : ℕ → ℕ) (n : ℕ) → ((k : ℕ) → k < n → f k ≡ g k) → sum_below f n ≡ sum_below g n
same f g zero h = refl
same f g (suc n) h = let rest = same f g n (λ k l. h k (omega arith)) in let here = h n (omega arith) in omega arith

nothing : (n : ℕ) → sum_below (λ k. 0) n ≡ 0
nothing zero = refl
nothing (suc n) = let rest = nothing n in omega arith

-- what f gives at x, and nothing elsewhere
abbrev only : (ℕ → ℕ) → ℕ → ℕ → ℕ
only f x k = cond {A = ℕ} (eqb k x) (f k) 0

only_here : (f : ℕ → ℕ) (x k : ℕ) → k ≡ x → only f x k ≡ f x
only_here f x k e = rw (eq-eqb k x e) (ap f e)

only_there : (f : ℕ → ℕ) (x k : ℕ) → k < x → only f x k ≡ 0
only_there f x k h = rw (differs k x (λ e. absurd (omega arith))) refl

only_past : (f : ℕ → ℕ) (x k : ℕ) → x < k → only f x k ≡ 0
only_past f x k h = rw (differs k x (λ e. absurd (omega arith))) refl

point : (f : ℕ → ℕ) (x n : ℕ) → x < n → sum_below (only f x) n ≡ f x
point f x zero h = absurd (omega arith)
point f x (suc n) h = ⊎_elim
    (λ l. let rest = point f x n l in let past = only_past f x n l in omega arith)
    (λ l. let none : sum_below (only f x) n ≡ 0 = same (only f x) (λ k. 0) n (λ k m. only_there f x k (omega arith)) ∙ nothing n in
    let here = only_here f x n (omega arith) in omega arith)
    (cases_lt x n)

times : (f c : ℕ → ℕ) (x k : ℕ) → f k * (cond {A = ℕ} (eqb k x) 1 0 + c k) ≡ only f x k + f k * c k
times f c x k = by_test (eqb k x)
  where
    by_test : (b : Bool) → f k * (cond {A = ℕ} b 1 0 + c k) ≡ cond {A = ℕ} b (f k) 0 + f k * c k
    by_test true = omega arith
    by_test false = omega arith

-- a sum over a list goes by how often each number stands in it
tallied : (f : ℕ → ℕ) (n : ℕ) (xs : List ℕ) → All (λ x. x < n) xs → sum_by f xs ≡ sum_below (λ k. f k * count_by (eqb k) xs) n
tallied f n [] below = sym (same (λ k. f k * 0) (λ k. 0) n (λ k h. omega arith) ∙ nothing n)
tallied f n (x ∷ xs) below =
    let rest = tallied f n xs (λ k d h. below (suc k) d (omega arith)) in
    let split : sum_below (λ k. f k * count_by (eqb k) (x ∷ xs)) n ≡ sum_below (λ k. only f x k + f k * count_by (eqb k) xs) n =
    same (λ k. f k * count_by (eqb k) (x ∷ xs)) (λ k. only f x k + f k * count_by (eqb k) xs) n (λ k h. ap (λ c. f k * c) (sum_by-cons (λ z. cond {A = ℕ} (eqb k z) 1 0) x xs) ∙ times f (λ k. count_by (eqb k) xs) x k) in
    let parts = plus (only f x) (λ k. f k * count_by (eqb k) xs) n in
    let here = point f x n (below 0 0 (omega arith)) in
    sum_by-cons f x xs ∙ (omega arith)

all_tallied : (f : ℕ → ℕ) (n : ℕ) (xss : List (List ℕ)) → All (λ xs. All (λ x. x < n) xs) xss → sum_by (λ xs. sum_by f xs) xss ≡ sum_below (λ k. f k * sum_by (count_by (eqb k)) xss) n
all_tallied f n [] below = sym (same (λ k. f k * 0) (λ k. 0) n (λ k h. omega arith) ∙ nothing n)
all_tallied f n (xs ∷ xss) below =
    let head = tallied f n xs (below 0 [] (omega arith)) in
    let rest = all_tallied f n xss (λ k d h. below (suc k) d (omega arith)) in
    let split : sum_below (λ k. f k * sum_by (count_by (eqb k)) (xs ∷ xss)) n ≡ sum_below (λ k. f k * count_by (eqb k) xs + f k * sum_by (count_by (eqb k)) xss) n =
    same (λ k. f k * sum_by (count_by (eqb k)) (xs ∷ xss)) (λ k. f k * count_by (eqb k) xs + f k * sum_by (count_by (eqb k)) xss) n (λ k h. ap (λ c. f k * c) (sum_by-cons (count_by (eqb k)) xs xss) ∙ (omega arith)) in
    let parts = plus (λ k. f k * count_by (eqb k) xs) (λ k. f k * sum_by (count_by (eqb k)) xss) n in
    sum_by-cons (λ xs. sum_by f xs) xs xss ∙ (omega arith)

pub all_below : (n : ℕ) (xss : List (List ℕ)) → HoldEachOnce n xss → All (λ xs. All (λ x. x < n) xs) xss
all_below n xss once a d h k z l =
    let e = get_or_default (get_or xss a d) k 0 z l in
    rw (← e) (held_below n xss once a d h k l)

pub sums_agree : (n : ℕ) (xss : List (List ℕ)) → HoldEachOnce n xss → (f : ℕ → ℕ) → sum_by (λ xs. sum_by f xs) xss ≡ sum_below f n
sums_agree n xss once f =
    all_tallied f n xss (all_below n xss once)
    ∙ same (λ k. f k * sum_by (count_by (eqb k)) xss) f n (λ k h. ap (λ c. f k * c) (once k ∙ ap (λ b. cond {A = ℕ} b 1 0) (lt-ltb k n h)) ∙ (omega arith))
