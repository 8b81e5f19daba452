-- Coordinates that are no whole numbers, as fractions.
use Rattle.std.proofs.Common.{ap, arith, negsuc, pos, refl, suc, subst, sym, unsigned_abs, zero, ℕ, ℤ, ◌*ℤ◌, ◌+ℤ◌, ◌*◌, ◌<◌, ◌≤◌, ◌∙◌, ◌≡◌}
use Rattle.std.proofs.Props.{props}
use Rattle.std.proofs.Math.Nat.{dvd-mul_left}
use Rattle.std.proofs.lemmas.Int.{ints, unsigned_abs-mul}
use Rattle.std.proofs.lemmas.Nat.Gcd.{dvd_refl}
use Rattle.std.specs.Int.{int_div_euclid, int_rem_euclid}
use Prim.Native.Nat.{◌∣◌}
use mathlib.Core.HLevel.{is_prop→PathP}
use Rattle.osm_lattice.specs.declared.frac.Frac.{Frac}
use Rattle.osm_lattice.specs.Lowest.{IsInLowestTerms}
use Rattle.osm_geom.specs.declared.point.Part.{Part}
use Rattle.osm_geom.specs.Coordinate.{ceiling_of, floor_of}
use Rattle.osm_geom.specs.Cut.{fraction}
use Rattle.osm_geom.specs.Part.{IsPartDen, IsPartNum, part_num}
use Rattle.osm_geom.specs.Point.{fraction_in}
use Rattle.osm_lattice.proofs.LatticeKit.{frac_same, lowest_prop}
use Rattle.osm_geom.proofs.Floors.{ceiling-of-sum, floor-and-rest, floor-of-sum, rest-below}

pub part_den-some : (d : ℕ) → IsPartDen d → 1 ≤ d
part_den-some d h = let some = h.0 in omega arith

-- a part as a fraction in lowest terms
abbrev pub part_frac : Part → Frac
part_frac p = record { num = part_num p.floor p.above p.den; den = p.den; den_in = part_den-some p.den p.den_in; lowest = p.lowest }

-- ---- one part for one fraction
den_prop : (n : ℕ) → IsProp (IsPartDen n)
den_prop n = hlevel props

above_prop : (m n : ℕ) → IsProp (m < n)
above_prop m n = hlevel props

num_prop : (z : ℤ) (n : ℕ) → IsProp (IsPartNum z n)
num_prop z n = hlevel props

part_from_fields : (p q : Part) → p.floor ≡ q.floor → p.above ≡ q.above → p.den ≡ q.den → p ≡ q
part_from_fields p q f a d = λ i. record {
  floor = f i;
  above = a i;
  den = d i;
  den_in = is_prop→PathP (λ j. IsPartDen (d j)) (λ j. den_prop (d j)) p.den_in q.den_in i;
  above_in = is_prop→PathP (λ j. a j < d j) (λ j. above_prop (a j) (d j)) p.above_in q.above_in i;
  num_in = is_prop→PathP (λ j. IsPartNum (part_num (f j) (a j) (d j)) (d j)) (λ j. num_prop (part_num (f j) (a j) (d j)) (d j)) p.num_in q.num_in i;
  lowest = is_prop→PathP (λ j. IsInLowestTerms (part_num (f j) (a j) (d j)) (d j)) (λ j. lowest_prop (part_num (f j) (a j) (d j)) (d j)) p.lowest q.lowest i;
}

part_floor : (p : Part) → floor_of (fraction_in p) ≡ p.floor
part_floor p = floor-of-sum p.floor p.above p.den p.above_in

same_above : (f g d e : ℤ) (a b : ℕ) → f *ℤ d ≡ g *ℤ e → f *ℤ d +ℤ pos a ≡ g *ℤ e +ℤ pos b → a ≡ b
same_above f g d e a b h k = omega (arith, ints)

pub part_same : (p q : Part) → part_num p.floor p.above p.den *ℤ pos q.den ≡ part_num q.floor q.above q.den *ℤ pos p.den → p ≡ q
part_same p q e =
    let one = frac_same (part_frac p) (part_frac q) e in
    let nums : part_num p.floor p.above p.den ≡ part_num q.floor q.above q.den = ap (λ f. f.num) one in
    let dens : p.den ≡ q.den = ap (λ f. f.den) one in
    let floors : p.floor ≡ q.floor = sym (part_floor p) ∙ ap (λ f. floor_of (fraction f)) one ∙ part_floor q in
    part_from_fields p q floors (same_above p.floor q.floor (pos p.den) (pos q.den) p.above q.above (ap (λ f. f *ℤ pos p.den) floors ∙ ap (λ d. q.floor *ℤ pos d) dens) nums) dens

-- ---- a part isn't whole
once : (z : ℤ) → unsigned_abs (z *ℤ pos 1) ≡ unsigned_abs z
once z = omega (arith, unsigned_abs-mul z (pos 1))

pub part_whole : (n : ℤ) (p : Part) → n *ℤ pos p.den ≡ part_num p.floor p.above p.den *ℤ pos 1 → ⊥
part_whole n p e =
    let num = part_num p.floor p.above p.den in
    let sizes : unsigned_abs n * p.den ≡ unsigned_abs num = sym (unsigned_abs-mul n (pos p.den)) ∙ (ap unsigned_abs e ∙ once num) in
    let one : p.den ≡ 1 = p.lowest p.den (subst (λ k. p.den ∣ k) sizes (dvd-mul_left p.den (unsigned_abs n))) (dvd_refl p.den) in
    absurd (omega (arith, p.den_in.0, one))

no-rest : (f d : ℤ) (a : ℕ) → a ≡ 0 → f *ℤ d ≡ (f *ℤ d +ℤ pos a) *ℤ pos 1
no-rest f d a h = omega (arith, ints)

above-some : (p : Part) (a : ℕ) → p.above ≡ a → 1 ≤ a
above-some p zero h = absurd (part_whole p.floor p (no-rest p.floor (pos p.den) p.above h))
above-some p (suc a) h = omega arith

-- ---- the whole numbers next to it
pub part_floor_is : (p : Part) → p.floor ≡ floor_of (fraction_in p)
part_floor_is p = sym (part_floor p)

pub part_ceiling_is : (p : Part) → p.floor +ℤ pos 1 ≡ ceiling_of (fraction_in p)
part_ceiling_is p = sym (ceiling-of-sum p.floor p.above p.den (above-some p p.above refl) p.above_in)

-- ---- a fraction as a part
rest_is : (num : ℤ) (den : ℕ) → pos (unsigned_abs (int_rem_euclid num (pos den))) ≡ int_rem_euclid num (pos den)
rest_is (pos a) den = refl
rest_is (negsuc a) den = refl

pub record PartOf (f : Frac) : Type 0 where
  pub part : Part
  pub is : fraction_in part ≡ fraction f

module _ (num : ℤ) (den : ℕ) (some : 1 ≤ den) where
  pub num_is : (floor : ℤ) (above : ℕ) → floor ≡ int_div_euclid num (pos den) → pos above ≡ int_rem_euclid num (pos den) → part_num floor above den ≡ num
  num_is floor above f a = ap (λ q. q *ℤ pos den +ℤ pos above) f ∙ ap (λ r. int_div_euclid num (pos den) *ℤ pos den +ℤ r) a ∙ floor-and-rest num den some

  pub above_is_in : (above : ℕ) → pos above ≡ int_rem_euclid num (pos den) → above < den
  above_is_in above a = subst (λ r. unsigned_abs r < den) (sym a) (rest-below num den some)

pub part_of : (f : Frac) → IsPartDen f.den → IsPartNum f.num f.den → PartOf f
part_of f d n =
    let some = part_den-some f.den d in
    let floor = int_div_euclid f.num (pos f.den) in
    let above = unsigned_abs (int_rem_euclid f.num (pos f.den)) in
    let e = num_is f.num f.den some floor above refl (rest_is f.num f.den) in
    record {
      part = record {
        floor = floor;
        above = above;
        den = f.den;
        den_in = d;
        above_in = rest-below f.num f.den some;
        num_in = subst (λ z. IsPartNum z f.den) (sym e) n;
        lowest = subst (λ z. IsInLowestTerms z f.den) (sym e) f.lowest;
      };
      is = ap (λ z. record { num = z; den = f.den }) e;
    }
