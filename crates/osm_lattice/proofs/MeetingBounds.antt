-- A point on a segment is within the ranges of coordinates: between the segment's ends in x and in y.
use Rattle.std.proofs.Common.{◌≡◌, ◌∙◌, ℕ, ◌*◌, ◌≤◌, ℤ, pos, ◌+ℤ◌, ◌-ℤ◌, ◌*ℤ◌, unsigned_abs, Bool, true, false, not, refl, sym, ap, arith}
use Rattle.std.proofs.lemmas.Int.{ints, unsigned_abs-mul}
use Rattle.std.proofs.Math.Nat.{le_of_mul-le-mul_right}
use Rattle.plane.specs.RayCrossing.{off_by}
use Rattle.plane.specs.Sign.{Sign, Minus, Null, Plus, sign, is_plus}
use Rattle.plane.proofs.SignKit.{times, agree, sign-*, Says, says, agree-sum, all4, all4-out, imp, imp-out, null-zero, same_sign, same-sign-is}
use Rattle.osm_lattice.proofs.Sizes.{product_within, signed}
use Rattle.osm_lattice.specs.declared.seg.Seg.{Seg}
use Rattle.osm_lattice.specs.declared.frac.Frac.{Frac}
use Rattle.osm_lattice.specs.Meeting.{IsOnSegment}
use Rattle.lists.proofs.ListsKit.{same_from_difference}
use Rattle.plane.proofs.PlaneKit.{off_by-no, off_by-plus}

-- both are Plus, or both are Minus
abbrev pub alike : Sign → Sign → Bool
alike Plus Plus = true
alike Minus Minus = true
alike s t = false

-- the steps (a, c) and (b, d) to the ends lie on one line, and not to one side
abbrev not_alike : Sign → Sign → Sign → Sign → Sign → Bool
not_alike r a b c d =
    imp (same_sign (times a d) (times c b)) (λ _. imp (agree (times a b) (times c d) r) (λ _. imp (not (is_plus r)) (λ _. not (alike a b))))

not_alike-all : (r : Sign) → all4 (not_alike r) ≡ true
not_alike-all Minus = refl
not_alike-all Null = refl
not_alike-all Plus = refl

unalike : (a b c d z : ℤ) → a *ℤ d ≡ c *ℤ b → a *ℤ b +ℤ c *ℤ d ≡ z → not (is_plus (sign z)) ≡ true → not (alike (sign a) (sign b)) ≡ true
unalike a b c d z line sum back =
    let r = sign z in let s = sign a in let t = sign b in let u = sign c in let v = sign d in
    let whole : not_alike r s t u v ≡ true = all4-out (not_alike r) (not_alike-all r) s t u v in
    let lines : same_sign (times s v) (times u t) ≡ true = same-sign-is (times s v) (times u t) (sym (sign-* a d) ∙ ap sign line ∙ sign-* c b) in
    let sums : agree (times s t) (times u v) r ≡ true = rw (← sign-* a b, ← sign-* c d) (agree-sum (a *ℤ b) (c *ℤ d) z sum) in
    imp-out (not (is_plus r)) (λ _. not (alike s t)) (imp-out (agree (times s t) (times u v) r) (λ _. imp (not (is_plus r)) (λ _. not (alike s t))) (imp-out (same_sign (times s v) (times u t)) (λ _. imp (agree (times s t) (times u v) r) (λ _. imp (not (is_plus r)) (λ _. not (alike s t)))) whole lines) sums) back

-- seen from a point on the segment between two others, these lie to opposite sides, in x and in y
pub apart_where_on : (a b c d : ℤ) → off_by (sign (a *ℤ d -ℤ c *ℤ b)) (sign (a *ℤ b +ℤ c *ℤ d)) ≡ false → (not (alike (sign a) (sign b)) ≡ true) × (not (alike (sign c) (sign d)) ≡ true)
apart_where_on a b c d on =
    let line : a *ℤ d ≡ c *ℤ b = same_from_difference (a *ℤ d) (c *ℤ b) (null-zero (a *ℤ d -ℤ c *ℤ b) (off_by-no (sign (a *ℤ d -ℤ c *ℤ b)) (sign (a *ℤ b +ℤ c *ℤ d)) on)) in
    let back = off_by-plus (sign (a *ℤ d -ℤ c *ℤ b)) (sign (a *ℤ b +ℤ c *ℤ d)) on in
    (unalike a b c d (a *ℤ b +ℤ c *ℤ d) line refl back, unalike c d a b (a *ℤ b +ℤ c *ℤ d) (sym line) (turned_sum (a *ℤ b) (c *ℤ d)) back)
  where
    turned_sum : (x y : ℤ) → y +ℤ x ≡ x +ℤ y
    turned_sum x y = omega (arith, ints)

-- a number between two others is no larger than they
between : (s t : Sign) (f e p : ℤ) (m : ℕ) → Says s (f -ℤ p) → Says t (e -ℤ p) → not (alike s t) ≡ true → unsigned_abs f ≤ m → unsigned_abs e ≤ m → unsigned_abs p ≤ m
between Plus Plus f e p m hs ht apart hf he = absurd (cc apart)
between Minus Minus f e p m hs ht apart hf he = absurd (cc apart)
between Plus Null f e p m hs ht apart hf he = omega (arith, signed)
between Plus Minus f e p m hs ht apart hf he = omega (arith, signed)
between Null t f e p m hs ht apart hf he = omega (arith, signed)
between Minus Null f e p m hs ht apart hf he = omega (arith, signed)
between Minus Plus f e p m hs ht apart hf he = omega (arith, signed)

-- (px, py) on the segment from (fx, fy) to (ex, ey)
within : (px py fx fy ex ey : ℤ) (m n : ℕ) →
    off_by (sign ((fx -ℤ px) *ℤ (ey -ℤ py) -ℤ (fy -ℤ py) *ℤ (ex -ℤ px))) (sign ((fx -ℤ px) *ℤ (ex -ℤ px) +ℤ (fy -ℤ py) *ℤ (ey -ℤ py))) ≡ false →
    unsigned_abs fx ≤ m → unsigned_abs fy ≤ n → unsigned_abs ex ≤ m → unsigned_abs ey ≤ n → (unsigned_abs px ≤ m) × (unsigned_abs py ≤ n)
within px py fx fy ex ey m n on hfx hfy hex hey =
    let a = fx -ℤ px in let b = ex -ℤ px in let c = fy -ℤ py in let d = ey -ℤ py in
    let apart = apart_where_on a b c d on in
    (between (sign a) (sign b) fx ex px m (says a) (says b) apart.0 hfx hex, between (sign c) (sign d) fy ey py n (says c) (says d) apart.1 hfy hey)

-- a coordinate multiplied by a common denominator
scaled : (a : ℤ) (e f m : ℕ) → unsigned_abs a ≤ m → unsigned_abs ((pos e *ℤ pos f) *ℤ a) ≤ e * f * m
scaled a e f m small = product_within (pos e *ℤ pos f) a (e * f) m (product_within (pos e) (pos f) e f (omega arith) (omega arith)) small

cancelled : (x : ℤ) (e f m : ℕ) → 1 ≤ f → unsigned_abs (x *ℤ pos f) ≤ e * f * m → unsigned_abs x ≤ m * e
cancelled x e f m some small =
    let product : unsigned_abs (x *ℤ pos f) ≡ unsigned_abs x * f = unsigned_abs-mul x (pos f) in
    let moved : e * f * m ≡ m * e * f = omega arith in
    let bound : unsigned_abs x * f ≤ m * e * f = omega (arith, product, moved, small) in
    le_of_mul-le-mul_right bound some

turned_product : (e f m : ℕ) → e * f * m ≡ f * e * m
turned_product e f m = omega arith

pub on_segment_in : (s : Seg) (x y : Frac) → IsOnSegment s x y → (unsigned_abs x.num ≤ 1_800_000_000 * x.den) × (unsigned_abs y.num ≤ 900_000_000 * y.den)
on_segment_in s x y on =
    let k = pos x.den *ℤ pos y.den in
    let both = within (x.num *ℤ pos y.den) (y.num *ℤ pos x.den) (k *ℤ s.a.x) (k *ℤ s.a.y) (k *ℤ s.b.x) (k *ℤ s.b.y) (x.den * y.den * 1_800_000_000) (x.den * y.den * 900_000_000) on
    (scaled s.a.x x.den y.den 1_800_000_000 s.a.x_in) (scaled s.a.y x.den y.den 900_000_000 s.a.y_in) (scaled s.b.x x.den y.den 1_800_000_000 s.b.x_in) (scaled s.b.y x.den y.den 900_000_000 s.b.y_in) in
    (cancelled x.num x.den y.den 1_800_000_000 y.den_in both.0, cancelled y.num y.den x.den 900_000_000 x.den_in (rw (turned_product x.den y.den 900_000_000) at both.1))
