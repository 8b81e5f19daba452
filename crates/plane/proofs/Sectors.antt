-- The sector lemma.
use Rattle.std.proofs.Common.{Bool, ap, arith, eqb, eqb-true, refl, subst, true, ◌+◌, ◌∙◌, ◌≡◌}
use borrow.Author.Differences.{ints}
use lib.IntN.{pos, ◌-ℤ◌}
use Rattle.plane.specs.RayCrossing.{IsOff, down_by, down_crossing, off_by, ray_crossing, up_by, up_crossing}
use Rattle.plane.specs.Sector.{in_sector, sector_by}
use Rattle.plane.specs.Sign.{Plus, Sign, negated, sign}
use Rattle.plane.specs.Vector.{IsNonZero, Vector, cross, dot, from_to}
use Rattle.plane.proofs.Products.{cross-back, cross-here, cross-self, direction-back, dot-here, dot-reversed, frame-agree, frame-dot-agree, plucker-agree, plucker-dot-agree}
use Rattle.plane.proofs.Signs.{agree, all2, all2-out, all4, all4-out, imp, imp-out, times}

-- ---- the signs: of dot d and cross d at a (xa, ya), b (xb, yb) and d' (xd, yd), of cross a b (c), dot a b (s), cross d' a (ca) and cross d' b (cb)
abbrev sector_inner : Sign → Sign → Sign → Sign → Sign → Sign → Sign → Sign → Sign → Bool
sector_inner xa ya xb yb c xd yd ca cb =
    imp (agree (times xd xd) (times yd yd) Plus) λ _.
    imp (agree (times Plus ca) (times xa yd) (times xd ya)) λ _.
    imp (agree (times Plus cb) (times xb yd) (times xd yb)) λ _.
    imp (agree (times yd c) (times yb ca) (times ya cb)) λ _.
    imp (agree (times xd c) (times xb ca) (times xa cb)) λ _.
    eqb (up_by ya yb c + down_by ca cb c + sector_by xa ya xd yd ca) (up_by ca cb c + down_by ya yb c + sector_by xb yb xd yd cb)

abbrev sector_middle : Sign → Sign → Sign → Sign → Sign → Sign → Bool
sector_middle xa ya xb yb c s =
    imp (agree (times Plus c) (times xb ya) (times xa yb)) λ _.
    imp (agree (times xa xb) (times ya yb) (times Plus s)) λ _.
    imp (off_by c s) λ _.
    all4 (sector_inner xa ya xb yb c)

abbrev sector_outer : Sign → Sign → Sign → Sign → Bool
sector_outer xa ya xb yb = all2 (sector_middle xa ya xb yb)

sector_computes : all4 sector_outer ≡ true
sector_computes = refl

-- agree at three products of which the first or the last has a sign that is known
sector_signs : (xa ya xb yb c s xd yd ca cb : Sign) →
    agree (times Plus c) (times xb ya) (times xa yb) ≡ true →
    agree (times xa xb) (times ya yb) (times Plus s) ≡ true →
    off_by c s ≡ true →
    agree (times xd xd) (times yd yd) Plus ≡ true →
    agree (times Plus ca) (times xa yd) (times xd ya) ≡ true →
    agree (times Plus cb) (times xb yd) (times xd yb) ≡ true →
    agree (times yd c) (times yb ca) (times ya cb) ≡ true →
    agree (times xd c) (times xb ca) (times xa cb) ≡ true →
    up_by ya yb c + down_by ca cb c + sector_by xa ya xd yd ca ≡ up_by ca cb c + down_by ya yb c + sector_by xb yb xd yd cb
sector_signs xa ya xb yb c s xd yd ca cb h1 h2 h3 h4 h5 h6 h7 h8 =
    let m = all2-out (sector_middle xa ya xb yb) (all4-out sector_outer sector_computes xa ya xb yb) c s in
    let i = all4-out (sector_inner xa ya xb yb c) (imp-out _ _ (imp-out _ _ (imp-out _ _ m h1) h2) h3) xd yd ca cb in
    eqb-true _ _ (imp-out _ _ (imp-out _ _ (imp-out _ _ (imp-out _ _ (imp-out _ _ i h4) h5) h6) h7) h8)

pub sector_lemma : (d d' a b : Vector) → IsNonZero d → IsNonZero d' → IsOff a b →
    up_crossing d a b + down_crossing d' a b + in_sector d d' a ≡ up_crossing d' a b + down_crossing d a b + in_sector d d' b
sector_lemma d d' a b p p' o =
    sector_signs (sign (dot d a)) (sign (cross d a)) (sign (dot d b)) (sign (cross d b)) (sign (cross a b)) (sign (dot a b)) (sign (dot d d')) (sign (cross d d')) (sign (cross d' a)) (sign (cross d' b))
    (frame-agree d a b p)
    (frame-dot-agree d a b p)
    o
    (subst (λ (n : Sign). agree (times (sign (dot d d')) (sign (dot d d'))) (times (sign (cross d d')) (sign (cross d d'))) (times Plus n) ≡ true) p' (frame-dot-agree d d' d' p))
    (frame-agree d d' a p)
    (frame-agree d d' b p)
    (plucker-agree d d' a b)
    (plucker-dot-agree d d' a b)

pub here-outside : (d c v : Vector) → in_sector d c (from_to v v) ≡ 0
here-outside d c v = rw (dot-here d v, cross-here d v)

-- ---- the wedge lemma over ℤ
pub signed_sector_lemma : (d c a b : Vector) → IsNonZero d → IsNonZero c → IsOff a b → ray_crossing d a b -ℤ ray_crossing c a b ≡ pos (in_sector d c b) -ℤ pos (in_sector d c a)
signed_sector_lemma d c a b p q o = let w = sector_lemma d c a b p q o in omega (arith, ints)

pub opposite-in : (a b : Vector) → IsNonZero (from_to a b) → in_sector (from_to a b) (from_to b a) (from_to b a) ≡ 1
opposite-in a b h =
    let m = dot-reversed b a b a ∙ ap negated (direction-back a b h) in
    rw (m, cross-back a b, cross-self (from_to b a)) refl

pub own-out : (a b : Vector) → IsNonZero (from_to a b) → in_sector (from_to a b) (from_to b a) (from_to a b) ≡ 0
own-out a b h =
    let m = dot-reversed b a b a ∙ ap negated (direction-back a b h) in
    rw (h, m, cross-back a b, cross-self (from_to a b)) refl
