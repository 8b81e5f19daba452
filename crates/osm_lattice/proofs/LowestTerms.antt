-- Two fractions in lowest terms that are equal have equal parts.
use Rattle.std.proofs.Common.{◌≡◌, ℕ, zero, suc, ◌+◌, ◌-◌, ◌*◌, ◌/◌, ◌%◌, ◌≤◌, ℤ, pos, ◌*ℤ◌, unsigned_abs, arith, sym, ap, ◌∙◌, subst}
use Rattle.std.proofs.Props.{props}
use Rattle.std.proofs.Math.Nat.{one-mul, dvd-mul_left, dvd-mul_left_of_dvd, dvd-sub, dvd-mod_iff, mod-add-div}
use Rattle.std.proofs.lemmas.Nat.Gcd.{dvd_refl, dvd-zero, dvd_antisymm}
use Rattle.std.proofs.lemmas.Int.{ints, unsigned_abs-mul}
use Prim.Native.Nat.{◌∣◌}
use mathlib.Core.HLevel.{is_prop→PathP}
use Rattle.osm_lattice.specs.declared.frac.Frac.{Frac}
use Rattle.osm_lattice.specs.Lowest.{IsInLowestTerms}
use Rattle.osm_lattice.proofs.Divisors.{remainder_below}
use Rattle.osm_lattice.proofs.Factors.{cancel_factor, some}

-- the numbers have no common divisor but 1
abbrev pub AreCoprime : ℕ → ℕ → Type 0
AreCoprime a b = (d : ℕ) → d ∣ a → d ∣ b → d ≡ 1

-- a number that divides a m and b m, where a and b are coprime, divides m: by Euclid's steps
divides_by : (fuel a b k m : ℕ) → b ≤ fuel → AreCoprime a b → k ∣ a * m → k ∣ b * m → k ∣ m
divides_by fuel a zero k m h free p q =
    let one : a ≡ 1 = free a (dvd_refl a) (dvd-zero a) in
    subst (λ n. k ∣ n) (ap (λ n. n * m) one ∙ one-mul m) p
divides_by zero a (suc b) k m h free p q = absurd (omega arith)
divides_by (suc fuel) a (suc b) k m h free p q =
    let r = a % suc b in
    let rest : k ∣ r * m = subst (λ n. k ∣ n) (step (a / suc b) (suc b) r a m (mod-add-div a (suc b))) (dvd-sub k p (dvd-mul_left_of_dvd k q (a / suc b))) in
    divides_by fuel (suc b) r k m (remainder_below a b fuel h) (λ d in_b in_r. free d ((dvd-mod_iff d in_b).0 in_r) in_b) q rest
  where
    step : (q b r a m : ℕ) → r + b * q ≡ a → a * m - q * (b * m) ≡ r * m
    step q b r a m e = omega (arith, ap (λ n. n * m) e)

pub divides : (a b m : ℕ) → AreCoprime a b → b ∣ a * m → b ∣ m
divides a b m free p = divides_by b a b b m (omega arith) free p (subst (λ n. b ∣ n) (turned m b) (dvd-mul_left b m))
  where
    turned : (m b : ℕ) → m * b ≡ b * m
    turned m b = omega arith

same_den : (n d n' d' : ℕ) → AreCoprime n d → AreCoprime n' d' → n * d' ≡ n' * d → d ≡ d'
same_den n d n' d' free free' e =
    dvd_antisymm
    (divides n d d' free (subst (λ k. d ∣ k) (sym e) (dvd-mul_left d n')))
    (divides n' d' d free' (subst (λ k. d' ∣ k) e (dvd-mul_left d' n)))

pub lowest_prop : (z : ℤ) (n : ℕ) → IsProp (IsInLowestTerms z n)
lowest_prop z n = hlevel props

frac_from_parts : (f g : Frac) → f.num ≡ g.num → f.den ≡ g.den → f ≡ g
frac_from_parts f g en ed = λ i. record {
  num = en i;
  den = ed i;
  den_in = is_prop→PathP (λ j. 1 ≤ ed j) (λ j. den_prop (ed j)) f.den_in g.den_in i;
  lowest = is_prop→PathP (λ j. IsInLowestTerms (en j) (ed j)) (λ j. lowest_prop (en j) (ed j)) f.lowest g.lowest i;
}
  where
    den_prop : (n : ℕ) → IsProp (1 ≤ n)
    den_prop n = hlevel props

pub frac_same : (f g : Frac) → f.num *ℤ pos g.den ≡ g.num *ℤ pos f.den → f ≡ g
frac_same f g e =
    let sizes : unsigned_abs f.num * g.den ≡ unsigned_abs g.num * f.den = sym (unsigned_abs-mul f.num (pos g.den)) ∙ (ap unsigned_abs e ∙ unsigned_abs-mul g.num (pos f.den)) in
    let dens : f.den ≡ g.den = same_den (unsigned_abs f.num) f.den (unsigned_abs g.num) g.den f.lowest g.lowest sizes in
    let k : f.num *ℤ pos f.den ≡ g.num *ℤ pos f.den = ap (λ n. f.num *ℤ pos n) dens ∙ e in
    frac_from_parts f g (cancel_factor f.num g.num (pos f.den) (some f.den f.den_in) (turned f.num (pos f.den) ∙ (k ∙ turned (pos f.den) g.num))) dens
  where
    turned : (a k : ℤ) → k *ℤ a ≡ a *ℤ k
    turned a k = omega (arith, ints)
