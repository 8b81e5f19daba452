-- Every quotient of whole numbers is that of a fraction in lowest terms.
use Rattle.std.proofs.Common.{◌≡◌, ℕ, zero, suc, ◌*◌, ◌/◌, ◌%◌, ◌≤◌, ℤ, pos, ◌*ℤ◌, unsigned_abs, int_div, arith, refl, subst}
use Rattle.std.specs.Int.{IsGcd}
use Rattle.std.proofs.Math.Nat.{div-le_self}
use Rattle.std.proofs.lemmas.Nat.{le-div}
use Rattle.std.proofs.lemmas.Nat.Gcd.{IsGcd-from_zero, IsGcd-from_mod}
use Prim.Native.Nat.{◌∣◌}
use Rattle.osm_lattice.specs.declared.frac.Frac.{Frac}
use Rattle.osm_lattice.proofs.Divisors.{gcd-le, gcd-positive, lowest, remainder_below, same_fraction, unsigned_abs-int_div}

record GcdOf (a b : ℕ) : Type 0 where
  pub gcd : ℕ
  pub is : IsGcd a b gcd

-- by Euclid's steps
gcd_by : (fuel a b : ℕ) → b ≤ fuel → GcdOf a b
gcd_by fuel a zero h = record { gcd = a; is = IsGcd-from_zero a zero refl }
gcd_by zero a (suc b) h = absurd (omega arith)
gcd_by (suc fuel) a (suc b) h =
    let rest = gcd_by fuel (suc b) (a % suc b) (remainder_below a b fuel h) in
    record { gcd = rest.gcd; is = IsGcd-from_mod a (suc b) rest.gcd rest.is }

-- num / den in lowest terms
pub record FracOf (num : ℤ) (den : ℕ) : Type 0 where
  pub frac : Frac
  pub value : frac.num *ℤ pos den ≡ num *ℤ pos frac.den
  pub at_most : frac.den ≤ den

pub frac_of : (num : ℤ) (den : ℕ) → 1 ≤ den → FracOf num den
frac_of num den some =
    let common = gcd_by den (unsigned_abs num) den (omega arith) in
    let g = common.gcd in
    let positive = gcd-positive (unsigned_abs num) den g common.is some in
    let low = lowest (unsigned_abs num) den g common.is positive in
    record {
      frac = record {
        num = int_div num (pos g);
        den = den / g;
        den_in = le-div 1 den g positive (at_least den g (gcd-le (unsigned_abs num) den g common.is some));
        lowest = λ d in_num in_den. low d (subst (λ n. d ∣ n) (unsigned_abs-int_div num g) in_num) in_den;
      };
      value = same_fraction num den g common.is.0 common.is.1;
      at_most = div-le_self den g;
    }
  where
    at_least : (den g : ℕ) → g ≤ den → 1 * g ≤ den
    at_least den g h = omega arith
