-- The cyclic order of directions round a point.
use Rattle.std.proofs.Common.{Bool, ap, arith, eqb, eqb-true, false, not, refl, sym, true, ◌&&◌, ◌∙◌, ◌≡◌}
use Rattle.plane.specs.Sector.{in_sector}
use Rattle.plane.specs.Sign.{Sign, is_null, is_plus, negated, sign}
use Rattle.plane.specs.Vector.{IsNonZero, Vector, cross, dot}
use Rattle.plane_lists.proofs.NestingKit.{sector-either, apart, one-eqb, sector-chain, sector-one, sector-rest, zero-of}
use Rattle.plane.proofs.PlaneKit.{cross-negated, dot-swap}
use Rattle.plane.proofs.SignKit.{all2-out, imp, imp-out}

flip : (b : Bool) → true ≡ not b → b ≡ false
flip false h = refl
flip true h = absurd (cc h)

abbrev swapped_apart : Sign → Sign → Bool
swapped_apart k t = imp (not (is_null k && is_plus t)) λ _. not (is_null (negated k) && is_plus t)

pub apart-back : (a b : Vector) → apart a b ≡ true → apart b a ≡ true
apart-back a b n =
    let c = all2-out swapped_apart refl (sign (cross a b)) (sign (dot a b)) in
    ap (λ s. not (is_null s && is_plus (sign (dot b a)))) (cross-negated a b) ∙ ap (λ s. not (is_null (negated (sign (cross a b))) && is_plus s)) (ap sign (dot-swap a b)) ∙ imp-out _ _ c n

-- which comes second
pub second : (d a b : Vector) → IsNonZero d → IsNonZero a → IsNonZero b → apart a b ≡ true → in_sector d a b ≡ 1 → in_sector d b a ≡ 0
second d a b pd pa pb n h = zero-of d b a (flip (eqb (in_sector d b a) 1) (sym (one-eqb _ h) ∙ sector-one d a b pd pa pb n))

-- the order of three directions is cyclic
pub cyclic : (d a b : Vector) → IsNonZero d → IsNonZero a → IsNonZero b → apart d a ≡ true → apart a b ≡ true → in_sector d b a ≡ 1 → in_sector a d b ≡ 1
cyclic d a b pd pa pb nda nab h =
    let s = second d b a pd pb pa (apart-back a b nab) h in
    let r = sector-rest d a b pd pa pb nda in omega arith

-- four directions, no two the same
pub record FourApart (a b x z : Vector) : Type 0 where
  pub a-way : IsNonZero a
  pub b-way : IsNonZero b
  pub x-way : IsNonZero x
  pub z-way : IsNonZero z
  pub ab : apart a b ≡ true
  pub ax : apart a x ≡ true
  pub az : apart a z ≡ true
  pub bx : apart b x ≡ true
  pub bz : apart b z ≡ true
  pub xz : apart x z ≡ true

module _ (a b x z : Vector) (f : FourApart a b x z) (na : in_sector x z a ≡ 0) (nb : in_sector x z b ≡ 0) where
  -- seen from a direction that isn't between, x comes before z
  before-a : in_sector a z x ≡ 1
  before-a = let r = sector-rest x z a f.x-way f.z-way f.a-way f.xz in cyclic z a x f.z-way f.a-way f.x-way (apart-back a z f.az) f.ax (omega arith)

  before-b : in_sector b z x ≡ 1
  before-b = let r = sector-rest x z b f.x-way f.z-way f.b-way f.xz in cyclic z b x f.z-way f.b-way f.x-way (apart-back b z f.bz) f.bx (omega arith)

  neither : in_sector a b z ≡ 0 → in_sector a b x ≡ 1 → ⊥
  neither h k =
      let zb = sector-either a b z f.a-way f.b-way f.z-way h in
      let p = cyclic a x b f.a-way f.x-way f.b-way f.ax (apart-back b x f.bx) k in
      let q = cyclic x b a f.x-way f.b-way f.a-way (apart-back b x f.bx) (apart-back a b f.ab) p in
      let r = cyclic a b z f.a-way f.b-way f.z-way f.ab f.bz zb in
      let s = sector-chain b x a z f.b-way f.a-way q r in
      let t = second b x z f.b-way f.x-way f.z-way f.xz s in
      let u = before-b in absurd (omega arith)

  both-by : (c d : Bool) → eqb (in_sector a b z) 1 ≡ c → eqb (in_sector a b x) 1 ≡ d → in_sector a b z ≡ in_sector a b x
  both-by true d h k =
      let zz = eqb-true _ _ h in let xx = sector-chain a b z x f.a-way f.z-way zz before-a in zz ∙ sym xx
  both-by false true h k = absurd (neither (zero-of a b z h) (eqb-true _ _ k))
  both-by false false h k = zero-of a b z h ∙ sym (zero-of a b x k)

  -- a sector from a to b holds both of x and z or none, where neither a nor b is between x and z
  pub both_or_none : in_sector a b z ≡ in_sector a b x
  both_or_none = both-by (eqb (in_sector a b z) 1) (eqb (in_sector a b x) 1) refl refl
