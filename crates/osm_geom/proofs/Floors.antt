-- Floors and ceilings of fractions.
use Rattle.std.proofs.Common.{ap, arith, pos, negsuc, sym, unsigned_abs, ℕ, ℤ, ◌*ℤ◌, ◌+ℤ◌, ◌-ℤ◌, ◌*◌, ◌-◌, ◌<◌, ◌∙◌, ◌≡◌, ◌≤◌, ◌≤ℤ◌, ◌<ℤ◌, subst}
use Rattle.std.specs.Int.{int_div_euclid, int_rem_euclid}
use Rattle.std.proofs.lemmas.Int.{ints}
use Rattle.plane.specs.Sign.{Plus, sign}
use Rattle.osm_geom.specs.Coordinate.{AtLeast, AtMost, ceiling_of, floor_of}
use Rattle.osm_geom.specs.Point.{Fraction}
use Rattle.osm_lattice.proofs.LatticeKit.{signed}
use Rattle.plane.proofs.SignKit.{lift, same, ◌⊞◌, ◌⊟◌, ◌⊠◌, plus-is, plus-times, sign-pos}
use Rattle.lists.proofs.ListsKit.{floor_above, floor_below, product_not_below}

factor-out : (k q a : ℤ) → (q *ℤ k +ℤ k) -ℤ a *ℤ k ≡ k *ℤ ((q +ℤ pos 1) -ℤ a)
factor-out k q a = let k' = lift k in let q' = lift q in let a' = lift a in same ((q' ⊠ k' ⊞ k') ⊟ a' ⊠ k') (k' ⊠ ((q' ⊞ lift (pos 1)) ⊟ a')) (omega arith)

turned : (b k : ℤ) → (pos 0 -ℤ b) *ℤ k ≡ pos 0 -ℤ b *ℤ k
turned b k = let b' = lift b in let k' = lift k in same ((lift (pos 0) ⊟ b') ⊠ k') (lift (pos 0) ⊟ b' ⊠ k') (omega arith)

-- of two whole numbers, the first times k less than one k above the second
at-most-by : (a q : ℤ) (k : ℕ) → 1 ≤ k → (a *ℤ pos k) <ℤ (q *ℤ pos k +ℤ pos k) → a ≤ℤ q
at-most-by a q k h u =
    let p : sign ((q *ℤ pos k +ℤ pos k) -ℤ a *ℤ pos k) ≡ Plus = (plus-is _).1 (omega (arith, ints)) in
    let r : sign ((q +ℤ pos 1) -ℤ a) ≡ Plus = sym (plus-times (pos k) ((q +ℤ pos 1) -ℤ a) (sign-pos k h)) ∙ ap sign (sym (factor-out (pos k) q a)) ∙ p in
    let s = (plus-is _).0 r in omega (arith, ints)

-- a whole number that is at most the fraction is at most its floor
floor-most : (a z : ℤ) (k : ℕ) → 1 ≤ k → (a *ℤ pos k) ≤ℤ z → a ≤ℤ int_div_euclid z (pos k)
floor-most a z k h g =
    let u = floor_above z k h in at-most-by a (int_div_euclid z (pos k)) k h (omega (arith, ints))

-- the floor of q + r / k, where r is less than k
pub floor-of-sum : (q : ℤ) (r k : ℕ) → r < k → int_div_euclid (q *ℤ pos k +ℤ pos r) (pos k) ≡ q
floor-of-sum q r k h =
    let some : 1 ≤ k = omega arith in
    let z = q *ℤ pos k +ℤ pos r in
    let low : q ≤ℤ int_div_euclid z (pos k) = floor-most q z k some (omega (arith, ints)) in
    let below = floor_below z k some in
    let high : int_div_euclid z (pos k) ≤ℤ q = at-most-by (int_div_euclid z (pos k)) q k some (omega (arith, ints)) in
    omega (arith, ints)

opposite-sum : (q k r : ℤ) → pos 0 -ℤ (q *ℤ k +ℤ r) ≡ ((pos 0 -ℤ q) -ℤ pos 1) *ℤ k +ℤ (k -ℤ r)
opposite-sum q k r = let q' = lift q in let k' = lift k in let r' = lift r in same (lift (pos 0) ⊟ (q' ⊠ k' ⊞ r')) (((lift (pos 0) ⊟ q') ⊟ lift (pos 1)) ⊠ k' ⊞ (k' ⊟ r')) (omega arith)

-- its ceiling, where r isn't 0
pub ceiling-of-sum : (q : ℤ) (r k : ℕ) → 1 ≤ r → r < k → pos 0 -ℤ int_div_euclid (pos 0 -ℤ (q *ℤ pos k +ℤ pos r)) (pos k) ≡ q +ℤ pos 1
ceiling-of-sum q r k h g =
    let rest : pos k -ℤ pos r ≡ pos (k - r) = omega (arith, ints) in
    let turned_sum : pos 0 -ℤ (q *ℤ pos k +ℤ pos r) ≡ ((pos 0 -ℤ q) -ℤ pos 1) *ℤ pos k +ℤ pos (k - r) = opposite-sum q (pos k) (pos r) ∙ ap (λ x. ((pos 0 -ℤ q) -ℤ pos 1) *ℤ pos k +ℤ x) rest in
    let f : int_div_euclid (pos 0 -ℤ (q *ℤ pos k +ℤ pos r)) (pos k) ≡ (pos 0 -ℤ q) -ℤ pos 1 = ap (λ x. int_div_euclid x (pos k)) turned_sum ∙ floor-of-sum ((pos 0 -ℤ q) -ℤ pos 1) (k - r) k (omega arith) in
    omega (arith, ints)

-- the floor and the rest make the number again
pub floor-and-rest : (z : ℤ) (k : ℕ) → 1 ≤ k → int_div_euclid z (pos k) *ℤ pos k +ℤ int_rem_euclid z (pos k) ≡ z
floor-and-rest (pos a) k h = omega (arith, ints)
floor-and-rest (negsuc a) k h = omega (arith, ints)

-- the rest is less than the denominator
pub rest-below : (z : ℤ) (k : ℕ) → 1 ≤ k → unsigned_abs (int_rem_euclid z (pos k)) < k
rest-below (pos a) k h = omega (arith, ints)
rest-below (negsuc a) k h = omega (arith, ints)

-- the floor of a fraction is no larger than a whole number that the fraction isn't above
pub floor-within : (z : ℤ) (k m : ℕ) → 1 ≤ k → unsigned_abs z ≤ m * k → unsigned_abs (int_div_euclid z (pos k)) ≤ m
floor-within z k m h g =
    let f = int_div_euclid z (pos k) in
    let below = floor_below z k h in
    let low : (pos 0 -ℤ pos m) ≤ℤ f = floor-most (pos 0 -ℤ pos m) z k h (at-least-by z m k g (turned (pos m) (pos k))) in
    let high : f ≤ℤ pos m = at-most-by f (pos m) k h (omega (arith, signed)) in
    omega (arith, signed)
  where
    at-least-by : (z : ℤ) (m k : ℕ) → unsigned_abs z ≤ m * k → (pos 0 -ℤ pos m) *ℤ pos k ≡ pos 0 -ℤ pos m *ℤ pos k → ((pos 0 -ℤ pos m) *ℤ pos k) ≤ℤ z
    at-least-by z m k g t = omega (arith, signed)

pub floor-is : (f : Fraction) → 1 ≤ f.den → AtLeast (floor_of f) f
floor-is f h = floor_below f.num f.den h

pub floor-from : (a : ℤ) (f : Fraction) → 1 ≤ f.den → AtLeast a f → a ≤ℤ floor_of f
floor-from a f h g = floor-most a f.num f.den h g

pub ceiling-is : (f : Fraction) → 1 ≤ f.den → AtMost f (ceiling_of f)
ceiling-is f h =
    let q = int_div_euclid (pos 0 -ℤ f.num) (pos f.den) in
    let a = floor_below (pos 0 -ℤ f.num) f.den h in let t = turned q (pos f.den) in omega (arith, ints)

pub ceiling-from : (b : ℤ) (f : Fraction) → 1 ≤ f.den → AtMost f b → ceiling_of f ≤ℤ b
ceiling-from b f h g =
    let t = turned b (pos f.den) in
    let m : ((pos 0 -ℤ b) *ℤ pos f.den) ≤ℤ (pos 0 -ℤ f.num) = omega (arith, ints) in
    let a = floor-most (pos 0 -ℤ b) (pos 0 -ℤ f.num) f.den h m in omega (arith, ints)

-- ---- numbers at most or at least a fraction
spread : (a b c : ℤ) → (a -ℤ b) *ℤ c ≡ a *ℤ c -ℤ b *ℤ c
spread a b c = same ((lift a ⊟ lift b) ⊠ lift c) (lift a ⊠ lift c ⊟ lift b ⊠ lift c) (omega arith)

pub at_least_less : (a b : ℤ) (f : Fraction) → a ≤ℤ b → AtLeast b f → AtLeast a f
at_least_less a b f h least = let some = subst (λ z. pos 0 ≤ℤ z) (spread b a (pos f.den)) (product_not_below (b -ℤ a) (pos f.den) (omega (arith, ints)) (omega (arith, ints))) in omega (arith, ints)

pub at_most_more : (a b : ℤ) (f : Fraction) → a ≤ℤ b → AtMost f a → AtMost f b
at_most_more a b f h most = let some = subst (λ z. pos 0 ≤ℤ z) (spread b a (pos f.den)) (product_not_below (b -ℤ a) (pos f.den) (omega (arith, ints)) (omega (arith, ints))) in omega (arith, ints)
