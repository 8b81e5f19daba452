-- Sums over lists of points: they are determined by how often each point occurs.
use Rattle.std.proofs.Common.{Bool, List, [], ap, arith, cond, false, length, refl, suc, sym, true, zero, ℕ, ◌*◌, ◌+◌, ◌/◌, ◌∙◌, ◌∷◌, ◌≡◌, ◌≤◌}
use Rattle.plane.specs.Vector.{Vector, one_at, same_point}
use Rattle.lists.proofs.ListsKit.{total}
use Rattle.plane_lists.specs.Lists.Parity.{IsEven}
use Rattle.plane.proofs.PlaneKit.{same_point-refl, same_point-true}

abbrev without : Vector → List Vector → List Vector
without v [] = []
without v (x ∷ xs) = cond (same_point v x) (without v xs) (x ∷ without v xs)

collect-step : (f : Vector → ℕ) (v x : Vector) (xs ys : List Vector) (n : ℕ) → total f xs ≡ n * f v + total f ys → (b : Bool) → same_point v x ≡ b →
    f x + total f xs ≡ (cond b 1 0 + n) * f v + total f (cond b ys (x ∷ ys))
collect-step f v x xs ys n h true e = let q = ap f (same_point-true v x e) in omega arith
collect-step f v x xs ys n h false e = omega arith

collect : (f : Vector → ℕ) (v : Vector) (xs : List Vector) → total f xs ≡ total (one_at v) xs * f v + total f (without v xs)
collect f v [] = omega arith
collect f v (x ∷ xs) = collect-step f v x xs (without v xs) (total (one_at v) xs) (collect f v xs) (same_point v x) refl

length-step : (x : Vector) (ys : List Vector) (n : ℕ) → length ys ≤ n → (b : Bool) → length (cond b ys (x ∷ ys)) ≤ suc n
length-step x ys n h true = omega arith
length-step x ys n h false = omega arith

length-without : (v : Vector) (xs : List Vector) → length (without v xs) ≤ length xs
length-without v [] = omega arith
length-without v (x ∷ xs) = length-step x (without v xs) (length xs) (length-without v xs) (same_point v x)

pub at-self : (v : Vector) → one_at v v ≡ 1
at-self v = ap (λ (b : Bool). cond b 1 0) (same_point-refl v)

at-other : (v w x : Vector) → same_point v x ≡ true → same_point v w ≡ false → (b : Bool) → same_point w x ≡ b → cond {A = ℕ} b 1 0 ≡ 0
at-other v w x e d true k =
    let p = same_point-true v x e in let q = same_point-true w x k in let r = same_point-refl w in
    let same : v ≡ w = cc in absurd (cc (ap (λ (u : Vector). same_point u w) same))
at-other v w x e d false k = refl

-- w is still as often in the list, unless it is v
count-step : (v w x : Vector) (ys : List Vector) (n : ℕ) → (same_point v w ≡ false → total (one_at w) ys ≡ n) → (b : Bool) → same_point v x ≡ b →
    same_point v w ≡ false → total (one_at w) (cond b ys (x ∷ ys)) ≡ one_at w x + n
count-step v w x ys n h true e d = let z = at-other v w x e d (same_point w x) refl in let t = h d in omega arith
count-step v w x ys n h false e d = omega arith

count-without : (v w : Vector) (xs : List Vector) → same_point v w ≡ false → total (one_at w) (without v xs) ≡ total (one_at w) xs
count-without v w [] d = refl
count-without v w (x ∷ xs) d = count-step v w x (without v xs) (total (one_at w) xs) (count-without v w xs) (same_point v x) refl d

gone-step : (v x : Vector) (ys : List Vector) → total (one_at v) ys ≡ 0 → (b : Bool) → same_point v x ≡ b → total (one_at v) (cond b ys (x ∷ ys)) ≡ 0
gone-step v x ys h true e = h
gone-step v x ys h false e = rw e (omega arith)

gone : (v : Vector) (xs : List Vector) → total (one_at v) (without v xs) ≡ 0
gone v [] = refl
gone v (x ∷ xs) = gone-step v x (without v xs) (gone v xs) (same_point v x) refl

even-without : (v w : Vector) (xs : List Vector) → IsEven (total (one_at w) xs) → (b : Bool) → same_point v w ≡ b → IsEven (total (one_at w) (without v xs))
even-without v w xs h true e = let g = gone w xs in let s = same_point-true v w e in rw (s, g) refl
even-without v w xs h false e = rw (count-without v w xs e) h

even-join : (c k t : ℕ) → IsEven c → IsEven t → IsEven (c * k + t)
even-join c k t h g =
    let e : c ≡ 2 * (c / 2) = omega arith in
    let f : c * k ≡ 2 * ((c / 2) * k) = omega (arith, ap (λ (n : ℕ). n * k) e) in omega arith

even-total-by : (n : ℕ) (f : Vector → ℕ) (xs : List Vector) → length xs ≤ n → ((v : Vector) → IsEven (total (one_at v) xs)) → IsEven (total f xs)
even-total-by n f [] h even = refl
even-total-by zero f (x ∷ xs) h even = absurd (omega arith)
even-total-by (suc n) f (x ∷ xs) h even =
    rw (collect f x (x ∷ xs)) (even-join (total (one_at x) (x ∷ xs)) (f x) (total f (without x (x ∷ xs))) (even x)
    (even-total-by n f (without x (x ∷ xs)) (rw (same_point-refl x) (omega (arith, length-without x xs)))
    (λ w. even-without x w (x ∷ xs) (even w) (same_point x w) refl)))

-- if each point occurs an even number of times, any sum over the points is even
pub even-total : (f : Vector → ℕ) (xs : List Vector) → ((v : Vector) → IsEven (total (one_at v) xs)) → IsEven (total f xs)
even-total f xs even = even-total-by (length xs) f xs (omega arith) even

same-without : (v w : Vector) (xs ys : List Vector) → total (one_at w) xs ≡ total (one_at w) ys → (b : Bool) → same_point v w ≡ b → total (one_at w) (without v xs) ≡ total (one_at w) (without v ys)
same-without v w xs ys h true e = let s = same_point-true v w e in rw s (gone w xs ∙ sym (gone w ys))
same-without v w xs ys h false e = count-without v w xs e ∙ h ∙ sym (count-without v w ys e)

same-total-by : (n : ℕ) (f : Vector → ℕ) (xs ys : List Vector) → length xs ≤ n → ((v : Vector) → total (one_at v) xs ≡ total (one_at v) ys) → total f xs ≡ total f ys
same-total-by n f [] [] h same = refl
same-total-by n f [] (y ∷ ys) h same = absurd (omega (arith, same y, at-self y))
same-total-by zero f (x ∷ xs) ys h same = absurd (omega arith)
same-total-by (suc n) f (x ∷ xs) ys h same =
    let e = collect f x (x ∷ xs) in let g = collect f x ys in
    let i : total f (without x (x ∷ xs)) ≡ total f (without x ys) = same-total-by n f (without x (x ∷ xs)) (without x ys) (rw (same_point-refl x) (omega (arith, length-without x xs)))
    (λ w. same-without x w (x ∷ xs) ys (same w) (same_point x w) refl) in
    let k = ap (λ (c : ℕ). c * f x) (same x) in omega arith

-- if each point occurs as often in both, any sum over the points is the same
pub same-total : (f : Vector → ℕ) (xs ys : List Vector) → ((v : Vector) → total (one_at v) xs ≡ total (one_at v) ys) → total f xs ≡ total f ys
same-total f xs ys same = same-total-by (length xs) f xs ys (omega arith) same
