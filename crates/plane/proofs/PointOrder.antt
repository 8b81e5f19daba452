-- The order of points, also along a line.
use Rattle.std.proofs.Common.{Bool, ap, arith, false, not, refl, subst, sym, true, ◌↔◌, ◌∙◌, ◌≡◌}
use borrow.Author.Differences.{ints}
use lib.IntN.{pos, ℤ, ◌*ℤ◌, ◌+ℤ◌, ◌-ℤ◌}
use Rattle.plane.specs.Order.{order}
use Rattle.plane.specs.Sign.{Minus, Null, Plus, Sign, is_null, negated, sign, then_sign}
use Rattle.plane.specs.Vector.{IsNonZero, Vector, cross, dot, from_to, same_point}
use Rattle.plane.proofs.Identities.{apart, lift, same, ◌⊞◌, ◌⊟◌, ◌⊠◌}
use Rattle.lists.proofs.ListsKit.{same_from_difference}
use Rattle.plane.proofs.Points.{same_point-refl, same_vector}
use Rattle.plane.proofs.Signs.{agree, agree-products, agree-sum, all, all-out, all2, all2-out, all4-out, imp, imp-out, not-null, null-zero, same-out, same_sign, same_sign-true, sign-reversed, times, times-plus, negated-then}

-- ---- the order of points
abbrev then_sums : Sign → Sign → Sign → Sign → Bool
then_sums y x y' x' = all2 λ y'' x''. imp (agree y y' y'') λ _. imp (agree x x' x'') λ _. agree (then_sign y x) (then_sign y' x') (then_sign y'' x'')

pub order-sum : (p q r : Vector) → agree (order p q) (order q r) (order p r) ≡ true
order-sum p q r =
    let h = agree-sum (q.y -ℤ p.y) (r.y -ℤ q.y) (r.y -ℤ p.y) (omega (arith, ints)) in
    let k = agree-sum (q.x -ℤ p.x) (r.x -ℤ q.x) (r.x -ℤ p.x) (omega (arith, ints)) in
    let c = all2-out (λ y'' x''. imp (agree (sign (q.y -ℤ p.y)) (sign (r.y -ℤ q.y)) y'') λ _. imp (agree (sign (q.x -ℤ p.x)) (sign (r.x -ℤ q.x)) x'') λ _. agree (order p q) (order q r) (then_sign y'' x''))
    (all4-out then_sums refl (sign (q.y -ℤ p.y)) (sign (q.x -ℤ p.x)) (sign (r.y -ℤ q.y)) (sign (r.x -ℤ q.x))) (sign (r.y -ℤ p.y)) (sign (r.x -ℤ p.x)) in
    imp-out _ _ (imp-out _ _ c h) k

pub order-reversed : (p q : Vector) → order q p ≡ negated (order p q)
order-reversed p q =
    let h = sign-reversed (q.y -ℤ p.y) (p.y -ℤ q.y) (omega (arith, ints)) in
    let k = sign-reversed (q.x -ℤ p.x) (p.x -ℤ q.x) (omega (arith, ints)) in
    rw (h, k) (negated-then (sign (q.y -ℤ p.y)) (sign (q.x -ℤ p.x)))

pub order-self-null : (p : Vector) → order p p ≡ Null
order-self-null p =
    let h : p.y -ℤ p.y ≡ pos 0 = omega (arith, ints) in let k : p.x -ℤ p.x ≡ pos 0 = omega (arith, ints) in
    rw (h, k) refl

then-null : (s t : Sign) → then_sign s t ≡ Null → (s ≡ Null) × (t ≡ Null)
then-null Null t h = (refl, h)
then-null Plus t h = absurd (cc h)
then-null Minus t h = absurd (cc h)

pub order-null : (p q : Vector) → order p q ≡ Null → p ≡ q
order-null p q h =
    let k = then-null (sign (q.y -ℤ p.y)) (sign (q.x -ℤ p.x)) h in
    same_vector p.x p.y q.x q.y (sym (same_from_difference q.x p.x (null-zero (q.x -ℤ p.x) k.1))) (sym (same_from_difference q.y p.y (null-zero (q.y -ℤ p.y) k.0)))

-- points on a line are in the order in which the line runs
abbrev then_dots : Sign → Sign → Sign → Sign → Bool
then_dots uy ux wy wx = all λ d. imp (agree Null (times uy wx) (times ux wy)) λ _. imp (agree (times ux wx) (times uy wy) d) λ _. same_sign d (times (then_sign uy ux) (then_sign wy wx))

line-by : (ux uy wx wy : ℤ) → ux *ℤ wy -ℤ uy *ℤ wx ≡ pos 0 → pos 0 *ℤ pos 0 +ℤ uy *ℤ wx ≡ ux *ℤ wy
line-by ux uy wx wy h =
    let a = lift ux in let b = lift uy in let c = lift wx in let d = lift wy in
    same (lift (pos 0) ⊠ lift (pos 0) ⊞ b ⊠ c) (a ⊠ d) (omega (arith, apart (a ⊠ d ⊟ b ⊠ c) (lift (pos 0)) h))

one-by : (ux uy wx wy : ℤ) → ux *ℤ wx +ℤ uy *ℤ wy ≡ pos 1 *ℤ (ux *ℤ wx +ℤ uy *ℤ wy)
one-by ux uy wx wy =
    let a = lift ux in let b = lift uy in let c = lift wx in let d = lift wy in
    same (a ⊠ c ⊞ b ⊠ d) (lift (pos 1) ⊠ (a ⊠ c ⊞ b ⊠ d)) (omega arith)

pub line-order : (p q u v : Vector) → sign (cross (from_to p q) (from_to u v)) ≡ Null → sign (dot (from_to p q) (from_to u v)) ≡ times (order p q) (order u v)
line-order p q u v h =
    let ux = q.x -ℤ p.x in let uy = q.y -ℤ p.y in let wx = v.x -ℤ u.x in let wy = v.y -ℤ u.y in
    let z = null-zero (cross (from_to p q) (from_to u v)) h in
    let e = agree-products (pos 0) (pos 0) uy wx ux wy (line-by ux uy wx wy z) in
    let f = agree-products ux wx uy wy (pos 1) (dot (from_to p q) (from_to u v)) (one-by ux uy wx wy) in
    let c = all-out (λ d. imp (agree Null (times (sign uy) (sign wx)) (times (sign ux) (sign wy))) λ _. imp (agree (times (sign ux) (sign wx)) (times (sign uy) (sign wy)) d) λ _. same_sign d (times (then_sign (sign uy) (sign ux)) (then_sign (sign wy) (sign wx))))
    (all4-out then_dots refl (sign uy) (sign ux) (sign wy) (sign wx)) (sign (dot (from_to p q) (from_to u v))) in
    same_sign-true _ _ (imp-out _ _ (imp-out _ _ c e) (subst (λ d. agree (times (sign ux) (sign wx)) (times (sign uy) (sign wy)) d ≡ true) (times-plus (sign (dot (from_to p q) (from_to u v)))) f))

abbrev is_set : Sign → Sign → Bool
is_set s t = not (is_null (then_sign s t))

abbrev square_set : Sign → Sign → Sign → Bool
square_set y x d = imp (is_set y x) λ _. imp (agree (times x x) (times y y) d) λ _. same_sign d Plus

pub rising-direction : (p q : Vector) → order p q ≡ Plus → IsNonZero (from_to p q)
rising-direction p q h =
    let x = q.x -ℤ p.x in let y = q.y -ℤ p.y in
    let f = agree-products x x y y (pos 1) (dot (from_to p q) (from_to p q)) (one-by x y x y) in
    let c = all-out (square_set (sign y) (sign x)) (all2-out (λ y x. all (square_set y x)) refl (sign y) (sign x)) (sign (dot (from_to p q) (from_to p q))) in
    same_sign-true _ _ (imp-out _ _ (imp-out _ _ c (not-null (order p q) h)) (subst (λ d. agree (times (sign x) (sign x)) (times (sign y) (sign y)) d ≡ true) (times-plus (sign (dot (from_to p q) (from_to p q)))) f))

pub line-order-up : (p q u v : Vector) → order p q ≡ Plus → sign (cross (from_to p q) (from_to u v)) ≡ Null → sign (dot (from_to p q) (from_to u v)) ≡ order u v
line-order-up p q u v h k = line-order p q u v k ∙ ap (λ s. times s (order u v)) h ∙ times-plus (order u v)

order-self-by : (p q : Vector) (s : Sign) → order p q ≡ s → same_point p q ≡ false → not (is_null s) ≡ true
order-self-by p q Plus e h = refl
order-self-by p q Minus e h = refl
order-self-by p q Null e h = let k = ap (λ w. same_point p w) (order-null p q e) in let m = same_point-refl p in absurd (cc (sym m ∙ k ∙ h))

pub order-self : (p q : Vector) → same_point p q ≡ false → not (is_null (order p q)) ≡ true
order-self p q h = order-self-by p q (order p q) refl h

pub order-null-is : (p q : Vector) → (order p q ≡ Null) ↔ (p ≡ q)
order-null-is p q = (order-null p q, λ e. ap (order p) (sym e) ∙ order-self-null p)

pub order-chain : (p q r : Vector) → order p q ≡ Plus → order q r ≡ Plus → order p r ≡ Plus
order-chain p q r h k = let a = order-sum p q r in let b = rw (h, k) at a in same-out Plus (order p r) b
