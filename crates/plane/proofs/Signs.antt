-- Signs of sums and products, and statements about all signs decided by computing.
use Rattle.std.proofs.Common.{Bool, ap, arith, false, not, refl, subst, suc, sym, true, zero, ℕ, ◌*◌, ◌<◌, ◌||◌, ◌↔◌, ◌∙◌, ◌≡◌}
use Rattle.std.proofs.lemmas.Bool.{not_from_false, or_parts}
use borrow.Author.Differences.{down, ints, up}
use lib.IntN.{neg_ℤ, negsuc, pos, ℤ, ◌*ℤ◌, ◌+ℤ◌, ◌-ℤ◌}
use lib.Signed.{◌<ℤ◌}
use Rattle.plane.specs.Sign.{Minus, Null, Plus, Sign, is_minus, is_null, is_plus, negated, sign, then_sign}

abbrev pub times : Sign → Sign → Sign
times Null b = Null
times a Null = Null
times Plus b = b
times Minus Plus = Minus
times Minus Minus = Plus

-- x + y = z is possible at these signs
abbrev pub agree : Sign → Sign → Sign → Bool
agree Null Null Null = true
agree Null Plus Plus = true
agree Null Minus Minus = true
agree Plus Null Plus = true
agree Minus Null Minus = true
agree Plus Plus Plus = true
agree Minus Minus Minus = true
agree Plus Minus u = true
agree Minus Plus u = true
agree s t u = false

pub sign-pos : (k : ℕ) → 0 < k → sign (pos k) ≡ Plus
sign-pos zero h = absurd (omega arith)
sign-pos (suc k) h = refl

sign-negated : (k : ℕ) → 0 < k → sign (neg_ℤ (pos k)) ≡ Minus
sign-negated zero h = absurd (omega arith)
sign-negated (suc k) h = refl

product-pos : (m n : ℕ) → 0 < suc m * suc n
product-pos m n = omega arith

zero-left : (n : ℕ) → 0 * n ≡ 0
zero-left n = omega arith

zero-right : (n : ℕ) → n * 0 ≡ 0
zero-right n = omega arith

pub sign-* : (a b : ℤ) → sign (a *ℤ b) ≡ times (sign a) (sign b)
sign-* (pos zero) (pos n) = ap (λ (k : ℕ). sign (pos k)) (zero-left n)
sign-* (pos zero) (negsuc n) = ap (λ (k : ℕ). sign (neg_ℤ (pos k))) (zero-left (suc n))
sign-* (pos (suc m)) (pos zero) = ap (λ (k : ℕ). sign (pos k)) (zero-right (suc m))
sign-* (pos (suc m)) (pos (suc n)) = sign-pos (suc m * suc n) (product-pos m n)
sign-* (pos (suc m)) (negsuc n) = sign-negated (suc m * suc n) (product-pos m n)
sign-* (negsuc m) (pos zero) = ap (λ (k : ℕ). sign (neg_ℤ (pos k))) (zero-right (suc m))
sign-* (negsuc m) (pos (suc n)) = sign-negated (suc m * suc n) (product-pos m n)
sign-* (negsuc m) (negsuc n) = sign-pos (suc m * suc n) (product-pos m n)

-- what a sign says to `omega`
abbrev pub Says : Sign → ℤ → Type 0
Says Minus z = up z < down z
Says Null z = up z ≡ down z
Says Plus z = down z < up z

pub says : (z : ℤ) → Says (sign z) z
says (pos zero) = refl
says (pos (suc n)) = omega arith
says (negsuc n) = omega arith

pub sign-from : (s : Sign) (z : ℤ) → Says s z → sign z ≡ s
sign-from Minus (pos n) h = absurd (omega arith)
sign-from Minus (negsuc n) h = refl
sign-from Null (pos zero) h = refl
sign-from Null (pos (suc n)) h = absurd (omega arith)
sign-from Null (negsuc n) h = absurd (omega arith)
sign-from Plus (pos zero) h = absurd (omega arith)
sign-from Plus (pos (suc n)) h = refl
sign-from Plus (negsuc n) h = absurd (omega arith)

agree-by : (s t u : Sign) (x y z : ℤ) → Says s x → Says t y → Says u z → x +ℤ y ≡ z → agree s t u ≡ true
agree-by Null Null Null x y z h k l e = refl
agree-by Null Plus Plus x y z h k l e = refl
agree-by Null Minus Minus x y z h k l e = refl
agree-by Plus Null Plus x y z h k l e = refl
agree-by Minus Null Minus x y z h k l e = refl
agree-by Plus Plus Plus x y z h k l e = refl
agree-by Minus Minus Minus x y z h k l e = refl
agree-by Plus Minus u x y z h k l e = refl
agree-by Minus Plus u x y z h k l e = refl
agree-by s t u x y z h k l e = absurd (omega (arith, ints))

pub agree-sum : (x y z : ℤ) → x +ℤ y ≡ z → agree (sign x) (sign y) (sign z) ≡ true
agree-sum x y z e = agree-by (sign x) (sign y) (sign z) x y z (says x) (says y) (says z) e

-- three products
pub agree-products : (a b c d e f : ℤ) → a *ℤ b +ℤ c *ℤ d ≡ e *ℤ f → agree (times (sign a) (sign b)) (times (sign c) (sign d)) (times (sign e) (sign f)) ≡ true
agree-products a b c d e f h = rw (← sign-* a b, ← sign-* c d, ← sign-* e f) (agree-sum (a *ℤ b) (c *ℤ d) (e *ℤ f) h)

-- ---- statements about all signs, by computing
abbrev pub both : Bool → Bool → Bool
both true b = b
both false b = false

abbrev pub all : (Sign → Bool) → Bool
all f = both (f Minus) (both (f Null) (f Plus))

abbrev pub all2 : (Sign → Sign → Bool) → Bool
all2 f = all (λ a. all (f a))

abbrev pub all3 : (Sign → Sign → Sign → Bool) → Bool
all3 f = all2 (λ a b. all (f a b))

abbrev pub all4 : (Sign → Sign → Sign → Sign → Bool) → Bool
all4 f = all2 (λ a b. all2 (f a b))

pub left-out : (a b : Bool) → both a b ≡ true → a ≡ true
left-out true b h = refl
left-out false b h = h

pub right-out : (a b : Bool) → both a b ≡ true → b ≡ true
right-out true b h = h
right-out false b h = absurd (cc h)

pub all-out : (f : Sign → Bool) → all f ≡ true → (s : Sign) → f s ≡ true
all-out f h Minus = left-out (f Minus) (both (f Null) (f Plus)) h
all-out f h Null = left-out (f Null) (f Plus) (right-out (f Minus) (both (f Null) (f Plus)) h)
all-out f h Plus = right-out (f Null) (f Plus) (right-out (f Minus) (both (f Null) (f Plus)) h)

pub all2-out : (f : Sign → Sign → Bool) → all2 f ≡ true → (s t : Sign) → f s t ≡ true
all2-out f h s t = all-out (f s) (all-out (λ a. all (f a)) h s) t

pub all3-out : (f : Sign → Sign → Sign → Bool) → all3 f ≡ true → (s t u : Sign) → f s t u ≡ true
all3-out f h s t u = all-out (f s t) (all2-out (λ a b. all (f a b)) h s t) u

pub all4-out : (f : Sign → Sign → Sign → Sign → Bool) → all4 f ≡ true → (s t u v : Sign) → f s t u v ≡ true
all4-out f h s t u v = all2-out (f s t) (all2-out (λ a b. all2 (f a b)) h s t) u v

-- a premise: what follows it is computed only where it holds
abbrev pub imp : Bool → (Unit {0} → Bool) → Bool
imp true k = k tt
imp false k = true

pub imp-out : (p : Bool) (k : Unit {0} → Bool) → imp p k ≡ true → p ≡ true → k tt ≡ true
imp-out true k h e = h
imp-out false k h e = absurd (cc e)

pub null-zero : (z : ℤ) → sign z ≡ Null → z ≡ pos 0
null-zero (pos zero) h = refl
null-zero (pos (suc n)) h = absurd (cc h)
null-zero (negsuc n) h = absurd (cc h)

pub plus-plus : (s : Sign) → agree Plus Plus s ≡ true → s ≡ Plus
plus-plus Plus h = refl
plus-plus Null h = absurd (cc h)
plus-plus Minus h = absurd (cc h)

pub sum-zero-left : (k x y : ℤ) → k ≡ pos 0 → k +ℤ x ≡ y → x ≡ y
sum-zero-left k x y z e = omega (arith, ints)

pub sum-with-plus : (m x y : ℤ) → sign m ≡ Plus → m +ℤ x ≡ y → agree Plus (sign x) (sign y) ≡ true
sum-with-plus m x y h e = let a = agree-sum m x y e in rw h at a

says-twice : (s : Sign) (z : ℤ) → Says s z → Says s (z +ℤ z)
says-twice Plus z h = omega (arith, ints)
says-twice Null z h = omega (arith, ints)
says-twice Minus z h = omega (arith, ints)

pub sign-twice : (z : ℤ) → sign (z +ℤ z) ≡ sign z
sign-twice z = sign-from (sign z) (z +ℤ z) (says-twice (sign z) z (says z))

pub times-plus : (s : Sign) → times Plus s ≡ s
times-plus Plus = refl
times-plus Null = refl
times-plus Minus = refl

negated-by : (s t : Sign) → agree s t Null ≡ true → t ≡ negated s
negated-by Plus Minus h = refl
negated-by Minus Plus h = refl
negated-by Null Null h = refl
negated-by s t h = absurd (cc h)

pub sign-reversed : (x y : ℤ) → x +ℤ y ≡ pos 0 → sign y ≡ negated (sign x)
sign-reversed x y e = negated-by (sign x) (sign y) (agree-sum x y (pos 0) e)

-- ---- a sign, as an order
pub says-at : (s : Sign) (z : ℤ) → sign z ≡ s → Says s z
says-at s z h = subst (λ (t : Sign). Says t z) h (says z)

pub plus-is : (z : ℤ) → (sign z ≡ Plus) ↔ (pos 0 <ℤ z)
plus-is z = ((λ h. let k = says-at Plus z h in omega (arith, ints)), (λ h. sign-from Plus z (omega (arith, ints))))

pub minus-is : (z : ℤ) → (sign z ≡ Minus) ↔ (z <ℤ pos 0)
minus-is z = ((λ h. let k = says-at Minus z h in omega (arith, ints)), (λ h. sign-from Minus z (omega (arith, ints))))

pub null-is : (z : ℤ) → (sign z ≡ Null) ↔ (z ≡ pos 0)
null-is z = ((λ h. let k = says-at Null z h in omega (arith, ints)), (λ h. sign-from Null z (omega (arith, ints))))

pub is_plus-true : (s : Sign) → is_plus s ≡ true → s ≡ Plus
is_plus-true Plus h = refl
is_plus-true Null h = absurd (cc h)
is_plus-true Minus h = absurd (cc h)

pub is_null-true : (s : Sign) → is_null s ≡ true → s ≡ Null
is_null-true Null h = refl
is_null-true Plus h = absurd (cc h)
is_null-true Minus h = absurd (cc h)

pub is_minus-true : (s : Sign) → is_minus s ≡ true → s ≡ Minus
is_minus-true Minus h = refl
is_minus-true Plus h = absurd (cc h)
is_minus-true Null h = absurd (cc h)

pub minus-not-plus : (s : Sign) → s ≡ Minus → not (is_plus s) ≡ true
minus-not-plus s h = ap (λ t. not (is_plus t)) h

pub null-not-plus : (s : Sign) → s ≡ Null → not (is_plus s) ≡ true
null-not-plus s h = ap (λ t. not (is_plus t)) h

pub minus-not-null : (s : Sign) → s ≡ Minus → s ≡ Null → ⊥
minus-not-null s h k = cc (sym h ∙ k)

-- the sign of a difference turned
pub difference_turned : (x y : ℤ) → sign (x -ℤ y) ≡ Minus → sign (y -ℤ x) ≡ Plus
difference_turned x y h = let k = says-at Minus (x -ℤ y) h in sign-from Plus (y -ℤ x) (omega (arith, ints))

-- no integer lies between 0 and 1, and none between -1 and 0
pub less_one : (z : ℤ) → sign z ≡ Plus → sign (z -ℤ pos 1) ≡ Minus → ⊥
less_one z h k = let a = says-at Plus z h in let b = says-at Minus (z -ℤ pos 1) k in omega (arith, ints)

pub more_one : (z : ℤ) → sign z ≡ Minus → sign (z +ℤ pos 1) ≡ Plus → ⊥
more_one z h k = let a = says-at Minus z h in let b = says-at Plus (z +ℤ pos 1) k in omega (arith, ints)

-- ---- signs that are the same
abbrev pub same_sign : Sign → Sign → Bool
same_sign Minus Minus = true
same_sign Null Null = true
same_sign Plus Plus = true
same_sign s t = false

pub same_sign-true : (s t : Sign) → same_sign s t ≡ true → s ≡ t
same_sign-true Minus Minus h = refl
same_sign-true Null Null h = refl
same_sign-true Plus Plus h = refl
same_sign-true s t h = absurd (cc h)

pub same_sign-refl : (s : Sign) → same_sign s s ≡ true
same_sign-refl Minus = refl
same_sign-refl Null = refl
same_sign-refl Plus = refl

pub times-back : (s t : Sign) → times s t ≡ times t s
times-back s t = same_sign-true (times s t) (times t s) (all2-out (λ s t. same_sign (times s t) (times t s)) refl s t)

pub not-null : (s : Sign) → s ≡ Plus → not (is_null s) ≡ true
not-null s h = ap (λ t. not (is_null t)) h

pub plus-times : (q x : ℤ) → sign q ≡ Plus → sign (q *ℤ x) ≡ sign x
plus-times q x h = sign-* q x ∙ ap (λ s. times s (sign x)) h ∙ times-plus (sign x)

-- a sum with positive weights
pub weighted-agree : (q m x y z : ℤ) → sign q ≡ Plus → sign m ≡ Plus → q *ℤ x +ℤ m *ℤ y ≡ z → agree (sign x) (sign y) (sign z) ≡ true
weighted-agree q m x y z h k e =
    subst (λ s. agree s (sign y) (sign z) ≡ true) (plus-times q x h) (subst (λ s. agree (sign (q *ℤ x)) s (sign z) ≡ true) (plus-times m y k) (agree-sum (q *ℤ x) (m *ℤ y) z e))

pub same-out : (s t : Sign) → agree s s t ≡ true → t ≡ s
same-out s t h = same_sign-true t s (imp-out _ _ (all2-out (λ s t. imp (agree s s t) λ _. same_sign t s) refl s t) h)

pub plus-sum : (q m : ℤ) → sign q ≡ Plus → sign m ≡ Plus → sign (q +ℤ m) ≡ Plus
plus-sum q m h k = let a = agree-sum q m (q +ℤ m) refl in let b = rw (h, k) at a in same-out Plus (sign (q +ℤ m)) b

pub self-diff : (z : ℤ) → sign (z -ℤ z) ≡ Null
self-diff z = ap sign (let e : z -ℤ z ≡ pos 0 = omega (arith, ints) in e)

pub not-minus-by : (s t : Sign) → then_sign s t ≡ Plus → not (is_minus s) ≡ true
not-minus-by Plus t h = refl
not-minus-by Null t h = refl
not-minus-by Minus t h = absurd (cc h)

pub same-sign-is : (s t : Sign) → s ≡ t → same_sign s t ≡ true
same-sign-is Plus t h = ap (same_sign Plus) (sym h)
same-sign-is Null t h = ap (same_sign Null) (sym h)
same-sign-is Minus t h = ap (same_sign Minus) (sym h)

pub not-null-by : (k : Sign) → (k ≡ Null → ⊥) → not (is_null k) ≡ true
not-null-by Null h = absurd (h refl)
not-null-by Plus h = refl
not-null-by Minus h = refl

abbrev pub same_bool : Bool → Bool → Bool
same_bool true b = b
same_bool false b = not b

pub same_bool-refl : (b : Bool) → same_bool b b ≡ true
same_bool-refl true = refl
same_bool-refl false = refl

pub same_bool-is : (a b : Bool) → a ≡ b → same_bool a b ≡ true
same_bool-is a b h = subst (λ x. same_bool a x ≡ true) h (same_bool-refl a)

pub same_bool-true : (a b : Bool) → same_bool a b ≡ true → a ≡ b
same_bool-true true true h = refl
same_bool-true false false h = refl
same_bool-true true false h = absurd (cc h)
same_bool-true false true h = absurd (cc h)

-- ---- negated
pub negated-then : (s t : Sign) → then_sign (negated s) (negated t) ≡ negated (then_sign s t)
negated-then Plus t = refl
negated-then Null t = refl
negated-then Minus t = refl

pub not-null-negated : (s : Sign) → not (is_null s) ≡ true → not (is_null (negated s)) ≡ true
not-null-negated Plus h = refl
not-null-negated Minus h = refl
not-null-negated Null h = absurd (cc h)

pub negated-not-plus : (s : Sign) → not (is_minus s) ≡ true → not (is_plus (negated s)) ≡ true
negated-not-plus Plus h = refl
negated-not-plus Null h = refl
negated-not-plus Minus h = absurd (cc h)

pub not-minus-back : (s t : Sign) → t ≡ negated s → is_plus s ≡ false → not (is_minus t) ≡ true
not-minus-back Null t h k = ap (λ x. not (is_minus x)) h
not-minus-back Minus t h k = ap (λ x. not (is_minus x)) h
not-minus-back Plus t h k = absurd (cc k)

-- ---- what the signs of two summands say of the sum, and of each other
pub agree-back : (s t u : Sign) → agree s t u ≡ true → agree t s u ≡ true
agree-back s t u h = imp-out _ _ (all3-out (λ s t u. imp (agree s t u) λ _. agree t s u) refl s t u) h

pub plus-null : (s : Sign) → agree Plus Null s ≡ true → s ≡ Plus
plus-null Plus h = refl
plus-null Null h = absurd (cc h)
plus-null Minus h = absurd (cc h)

pub null-plus : (s : Sign) → agree Null Plus s ≡ true → s ≡ Plus
null-plus Plus h = refl
null-plus Null h = absurd (cc h)
null-plus Minus h = absurd (cc h)

pub null-first : (s t u : Sign) → agree s t u ≡ true → s ≡ Null → t ≡ u
null-first s t u h k = same_sign-true t u (imp-out _ _ (all2-out (λ t u. imp (agree Null t u) λ _. same_sign t u) refl t u) (subst (λ x. agree x t u ≡ true) k h))

pub plus-not-minus : (s t u : Sign) → agree s t u ≡ true → s ≡ Plus → (t ≡ Minus → ⊥) → u ≡ Plus
plus-not-minus s Plus u h k n = plus-plus u (subst (λ x. agree x Plus u ≡ true) k h)
plus-not-minus s Null u h k n = plus-null u (subst (λ x. agree x Null u ≡ true) k h)
plus-not-minus s Minus u h k n = absurd (n refl)

pub sum-not-minus : (s t u : Sign) → agree s t u ≡ true → not (is_minus s) ≡ true → not (is_minus t) ≡ true → not (is_minus u) ≡ true
sum-not-minus s t u h k m = imp-out _ _ (imp-out _ _ (imp-out _ _ (all3-out (λ s t u. imp (agree s t u) λ _. imp (not (is_minus s)) λ _. imp (not (is_minus t)) λ _. not (is_minus u)) refl s t u) h) k) m

pub sum-not-plus : (s t u : Sign) → agree s t u ≡ true → not (is_plus s) ≡ true → not (is_plus t) ≡ true → not (is_plus u) ≡ true
sum-not-plus s t u h k m = imp-out _ _ (imp-out _ _ (imp-out _ _ (all3-out (λ s t u. imp (agree s t u) λ _. imp (not (is_plus s)) λ _. imp (not (is_plus t)) λ _. not (is_plus u)) refl s t u) h) k) m

-- a summand behind, where the other is ahead and the sum isn't
pub plus-behind : (s t u : Sign) → agree s t u ≡ true → s ≡ Plus → not (is_plus u) ≡ true → t ≡ Minus
plus-behind s t u h k n = same_sign-true t Minus (imp-out _ _ (imp-out _ _ (all2-out (λ t u. imp (agree Plus t u) λ _. imp (not (is_plus u)) λ _. same_sign t Minus) refl t u) (subst (λ x. agree x t u ≡ true) k h)) n)

pub neither-plus : (s t : Sign) → (is_plus s || is_plus t) ≡ false → (not (is_plus s) ≡ true) × (not (is_plus t) ≡ true)
neither-plus s t h = let b = or_parts (is_plus s) (is_plus t) h in (not_from_false (is_plus s) b.0, not_from_false (is_plus t) b.1)
