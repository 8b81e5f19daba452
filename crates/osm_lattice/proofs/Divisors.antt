-- Quotients by the greatest common divisor.
use Rattle.std.proofs.Common.{◌≡◌, ℕ, zero, suc, ◌*◌, ◌/◌, ◌%◌, ◌<◌, ◌≤◌, ℤ, pos, negsuc, neg_ℤ, ◌*ℤ◌, unsigned_abs, int_div, arith, refl, sym, ap, ◌∙◌, subst, ◌^◌, FitsSigned}
use Rattle.std.specs.Int.{IsGcd, w128}
use Rattle.std.proofs.lemmas.Int.{ints, to_z-of_z, fits_signed_from_abs, quot_fits}
use Rattle.osm_lattice.proofs.Exact.{held}
use Rattle.osm_lattice.proofs.Sizes.{signed}
use Rattle.std.proofs.Math.Nat.{div-mul_cancel, mul-dvd-mul_right, dvd_of_mul-dvd-mul_right, eq-one_of_dvd-one, le_of_dvd, pos_of_dvd_of_pos, one-mul}
use Prim.Native.Nat.{◌∣◌}
use Rattle.plane.proofs.SignKit.{lift, same, ◌⊠◌}

-- one step of Euclid's leaves less
pub remainder_below : (a b fuel : ℕ) → suc b ≤ suc fuel → a % suc b ≤ fuel
remainder_below a b fuel h = omega arith

pub gcd-le : (a b g : ℕ) → IsGcd a b g → 0 < b → g ≤ b
gcd-le a b g h some = le_of_dvd some h.1

pub gcd-positive : (a b g : ℕ) → IsGcd a b g → 0 < b → 0 < g
gcd-positive a b g h some = pos_of_dvd_of_pos h.1 some

-- the quotients have no common divisor but 1
pub lowest : (n m g : ℕ) → IsGcd n m g → 0 < g → (d : ℕ) → d ∣ n / g → d ∣ m / g → d ≡ 1
lowest n m g h some d in_n in_m =
    let P : ℕ → Type 0 = λ k. d * g ∣ k in
    let of_n = subst P (div-mul_cancel g h.0) (mul-dvd-mul_right d in_n g) in
    let of_m = subst P (div-mul_cancel g h.1) (mul-dvd-mul_right d in_m g) in
    let of_g : d * g ∣ g = h.2 (d * g) of_n of_m in
    eq-one_of_dvd-one (dvd_of_mul-dvd-mul_right d some (subst P (sym (one-mul g)) of_g))

pub unsigned_abs-int_div : (z : ℤ) (g : ℕ) → unsigned_abs (int_div z (pos g)) ≡ unsigned_abs z / g
unsigned_abs-int_div (pos a) g = refl
unsigned_abs-int_div (negsuc a) g = omega (arith, signed)

pub int_div-exact : (z : ℤ) (g : ℕ) → g ∣ unsigned_abs z → int_div z (pos g) *ℤ pos g ≡ z
int_div-exact (pos a) g h = let e = div-mul_cancel g h in omega (arith, ints)
int_div-exact (negsuc a) g h = neg_exact (suc a / g) g a (div-mul_cancel g h)
  where
    neg_exact : (q g a : ℕ) → q * g ≡ suc a → neg_ℤ (pos q) *ℤ pos g ≡ negsuc a
    neg_exact zero g a e = absurd (omega arith)
    neg_exact (suc q) g a e = omega (arith, ints)

-- the quotients make the same fraction
pub same_fraction : (z : ℤ) (m g : ℕ) → g ∣ unsigned_abs z → g ∣ m → int_div z (pos g) *ℤ pos m ≡ z *ℤ pos (m / g)
same_fraction z m g in_z in_m =
    let q = int_div z (pos g) in
    let whole : q *ℤ pos g ≡ z = int_div-exact z g in_z in
    let parts : m / g * g ≡ m = div-mul_cancel g in_m in
    ap (λ k. q *ℤ pos k) (sym parts) ∙ (same (lift q ⊠ lift (pos (m / g * g))) ((lift q ⊠ lift (pos g)) ⊠ lift (pos (m / g))) (omega arith) ∙ ap (λ w. w *ℤ pos (m / g)) whole)

-- the same quotient as the code computes it
pub quotient_is : (z r : ℤ) (g : ℕ) → FitsSigned w128 z → r ≡ pos g → 0 < g → g < 2 ^ 127 → held (int_div (held z) (held r)) ≡ int_div z (pos g)
quotient_is z r g fits e some small =
    let divisor : FitsSigned w128 (pos g) = fits_signed_from_abs w128 (pos g) (omega arith) in
    let quotient : FitsSigned w128 (int_div z (pos g)) = quot_fits w128 z (pos g) fits (omega (arith, ints)) in
    rw e (simp to_z-of_z)
