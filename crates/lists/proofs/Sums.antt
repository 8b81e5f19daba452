-- Sums over a list.
use Rattle.std.proofs.Common.{Bool, List, [], ap, arith, cond, map, refl, sym, false, true, ℕ, ◌++◌, ◌+◌, ◌*◌, ◌∷◌, ◌≡◌}
use Rattle.std.proofs.lemmas.List.Recursion.{is_sum_by}
use Rattle.std.specs.List.{sum_by}

abbrev pub total : {X : Type 0} → (X → ℕ) → List X → ℕ
total f [] = 0
total f (x ∷ xs) = f x + total f xs

pub total-is : {X : Type 0} (f : X → ℕ) (xs : List X) → total f xs ≡ sum_by f xs
total-is f xs = is_sum_by (total f) f refl (λ _ _. refl) xs

pub total-map : {X Y : Type 0} (f : Y → ℕ) (g : X → Y) (xs : List X) → total f (map g xs) ≡ total (λ (x : X). f (g x)) xs
total-map f g [] = refl
total-map f g (x ∷ xs) = ap (λ (n : ℕ). f (g x) + n) (total-map f g xs)

pub total-+ : {X : Type 0} (f g : X → ℕ) (xs : List X) → total (λ (x : X). f x + g x) xs ≡ total f xs + total g xs
total-+ f g [] = refl
total-+ f g (x ∷ xs) = let h = total-+ f g xs in omega arith

pub total-++ : {X : Type 0} (f : X → ℕ) (xs ys : List X) → total f (xs ++ ys) ≡ total f xs + total f ys
total-++ f [] ys = omega arith
total-++ f (x ∷ xs) ys = let a = total-++ f xs ys in omega arith

pub none-sum : {X : Type 0} (xs : List X) → total (λ x. 0) xs ≡ 0
none-sum [] = refl
none-sum (x ∷ xs) = let a = none-sum xs in omega arith

-- a sum of sums may be taken in either order
pub swap-sums : {X Y : Type 0} (F : X → Y → ℕ) (xs : List X) (ys : List Y) → total (λ x. total (λ y. F x y) ys) xs ≡ total (λ y. total (λ x. F x y) xs) ys
swap-sums F [] ys = sym (none-sum ys)
swap-sums F (x ∷ xs) ys = let a = swap-sums F xs ys in let b = total-+ (λ y. F x y) (λ y. total (λ x. F x y) xs) ys in omega arith

pub total-* : {X : Type 0} (f : X → ℕ) (n : ℕ) (xs : List X) → total (λ x. f x * n) xs ≡ total f xs * n
total-* f n [] = omega arith
total-* f n (x ∷ xs) = let a = total-* f n xs in omega arith

-- ---- numbers that count only where a test holds
pub cond-total : {X : Type 0} (b : Bool) (f : X → ℕ) (xs : List X) → cond b (total f xs) 0 ≡ total (λ x. cond b (f x) 0) xs
cond-total true f xs = refl
cond-total false f xs = sym (none-sum xs)

pub cond_by : (b : Bool) (m n : ℕ) → (b ≡ true → m ≡ n) → (b ≡ false → n ≡ 0) → cond b m 0 ≡ n
cond_by true m n h k = h refl
cond_by false m n h k = sym (k refl)

pub cond_none : (b : Bool) → cond {A = ℕ} b 0 0 ≡ 0
cond_none true = refl
cond_none false = refl

pub cond-+ : (b : Bool) (m n : ℕ) → cond b (m + n) 0 ≡ cond b m 0 + cond b n 0
cond-+ true m n = refl
cond-+ false m n = refl

pub both_conds : (b : Bool) (n : ℕ) → cond b n 0 + cond b 0 n ≡ n
both_conds true n = omega arith
both_conds false n = omega arith
