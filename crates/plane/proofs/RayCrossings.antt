-- Crossings of a ray, in the words of orders and of heights.
use Rattle.std.proofs.Common.{Bool, ap, arith, eqb, eqb-true, false, not, refl, subst, true, ℕ, ◌&&◌, ◌+◌, ◌||◌, ◌∙◌, ◌↔◌, ◌≡◌}
use borrow.Author.Differences.{ints}
use lib.IntN.{pos, ℤ, ◌-ℤ◌}
use lib.Signed.{◌<ℤ◌, ◌≤ℤ◌}
use Rattle.plane.specs.Bit.{bit}
use Rattle.plane.specs.Edge.{Edge, IsRisingEdge, ends_at}
use Rattle.plane.specs.Height.{is_in_span, is_left_of}
use Rattle.plane.specs.RayCrossing.{crosses_down, crosses_up, down_by, down_crossing, off_by, up_by, up_crossing}
use Rattle.plane.specs.Sector.{in_sector, sector_by}
use Rattle.plane.specs.Sign.{Minus, Null, Plus, Sign, is_minus, is_null, is_plus, negated, sign}
use Rattle.plane.specs.Vector.{IsNonZero, Vector, cross, dot, east, from_to, orient, same_point}
use Rattle.plane.proofs.Identities.{lift, same, ◌⊟◌, ◌⊠◌}
use Rattle.plane.proofs.Points.{same_point-true}
use Rattle.plane.proofs.Products.{cross-agree, cross-here, cross-negated, cross-self, dot-east, dot-swap, orient-round}
use Rattle.plane.proofs.Signs.{Says, agree, agree-sum, all, all-out, all2-out, all4-out, both, imp, imp-out, left-out, not-minus-by, right-out, same_sign, same_sign-true, says, times}
use Rattle.plane.proofs.Bits.{bit-and_no}

-- ---- a point off an edge, by signs
pub off_by-set : (c s : Sign) → not (is_null c) ≡ true → off_by c s ≡ true
off_by-set Plus s h = refl
off_by-set Minus s h = refl
off_by-set Null s h = absurd (cc h)

pub off_by-no : (c s : Sign) → off_by c s ≡ false → c ≡ Null
off_by-no Null s h = refl
off_by-no Plus s h = absurd (cc h)
off_by-no Minus s h = absurd (cc h)

off-negated : (c s : Sign) → off_by (negated c) s ≡ off_by c s
off-negated Plus s = refl
off-negated Minus s = refl
off-negated Null s = refl

-- the edge may run either way
pub off-turned : (a b : Vector) → off_by (sign (cross b a)) (sign (dot b a)) ≡ off_by (sign (cross a b)) (sign (dot a b))
off-turned a b = ap (λ c. off_by c (sign (dot b a))) (cross-negated a b) ∙ ap (λ z. off_by (negated (sign (cross a b))) (sign z)) (dot-swap a b) ∙ off-negated (sign (cross a b)) (sign (dot a b))

-- ---- a hit, by orders
up-out : (s t u : Sign) (x y z : ℤ) → Says s x → Says t y → Says u z → up_by s t u ≡ 1 → (x ≤ℤ pos 0) × (pos 0 <ℤ y) × (pos 0 <ℤ z)
up-out Plus Plus Plus x y z h k l e = omega (arith, ints)
up-out Null Plus Plus x y z h k l e = omega (arith, ints)
up-out Minus Plus Plus x y z h k l e = omega (arith, ints)
up-out s t u x y z h k l e = omega (arith, ints)

up-in : (s t u : Sign) (x y z : ℤ) → Says s x → Says t y → Says u z → (x ≤ℤ pos 0) × (pos 0 <ℤ y) × (pos 0 <ℤ z) → up_by s t u ≡ 1
up-in Plus Plus Plus x y z h k l e = omega (arith, ints)
up-in Null Plus Plus x y z h k l e = omega (arith, ints)
up-in Minus Plus Plus x y z h k l e = omega (arith, ints)
up-in s t u x y z h k l e = omega (arith, ints)

pub up_crossing-is : (d a b : Vector) → (up_crossing d a b ≡ 1) ↔ ((cross d a ≤ℤ pos 0) × (pos 0 <ℤ cross d b) × (pos 0 <ℤ cross a b))
up_crossing-is d a b = (
  (λ h. up-out (sign (cross d a)) (sign (cross d b)) (sign (cross a b)) (cross d a) (cross d b) (cross a b) (says (cross d a)) (says (cross d b)) (says (cross a b)) h),
  (λ h. up-in (sign (cross d a)) (sign (cross d b)) (sign (cross a b)) (cross d a) (cross d b) (cross a b) (says (cross d a)) (says (cross d b)) (says (cross a b)) h),
)

down-out : (s t u : Sign) (x y z : ℤ) → Says s x → Says t y → Says u z → down_by s t u ≡ 1 → (y ≤ℤ pos 0) × (pos 0 <ℤ x) × (z <ℤ pos 0)
down-out Plus Plus Minus x y z h k l e = omega (arith, ints)
down-out Plus Null Minus x y z h k l e = omega (arith, ints)
down-out Plus Minus Minus x y z h k l e = omega (arith, ints)
down-out s t u x y z h k l e = omega (arith, ints)

down-in : (s t u : Sign) (x y z : ℤ) → Says s x → Says t y → Says u z → (y ≤ℤ pos 0) × (pos 0 <ℤ x) × (z <ℤ pos 0) → down_by s t u ≡ 1
down-in Plus Plus Minus x y z h k l e = omega (arith, ints)
down-in Plus Null Minus x y z h k l e = omega (arith, ints)
down-in Plus Minus Minus x y z h k l e = omega (arith, ints)
down-in s t u x y z h k l e = omega (arith, ints)

pub down_crossing-is : (d a b : Vector) → (down_crossing d a b ≡ 1) ↔ ((cross d b ≤ℤ pos 0) × (pos 0 <ℤ cross d a) × (cross a b <ℤ pos 0))
down_crossing-is d a b = (
  (λ h. down-out (sign (cross d a)) (sign (cross d b)) (sign (cross a b)) (cross d a) (cross d b) (cross a b) (says (cross d a)) (says (cross d b)) (says (cross a b)) h),
  (λ h. down-in (sign (cross d a)) (sign (cross d b)) (sign (cross a b)) (cross d a) (cross d b) (cross a b) (says (cross d a)) (says (cross d b)) (says (cross a b)) h),
)

-- ---- the horizontal ray
pub cross-east : (a : Vector) → cross east a ≡ a.y
cross-east a = let x = lift a.x in let y = lift a.y in same (lift (pos 1) ⊠ y ⊟ lift (pos 0) ⊠ x) y (omega arith)

pub east-direction : IsNonZero east
east-direction = refl

abbrev pub up_seen : Vector → (Vector → Vector) → Edge → ℕ
up_seen d r e = up_crossing d (r e.from) (r e.to)

abbrev pub down_seen : Vector → (Vector → Vector) → Edge → ℕ
down_seen d r e = down_crossing d (r e.from) (r e.to)

abbrev pub crossings_at : Vector → (Vector → Vector) → Edge → ℕ
crossings_at d r t = up_seen d r t + down_seen d r t

-- ---- an edge that does not end at the point
abbrev left_1 : Sign → Sign → Sign → Sign → Bool
left_1 yu yv c dy = imp (agree yu dy yv) λ _. imp (not (is_minus dy)) λ _. eqb (up_by yu yv c + down_by yu yv c) (bit ((not (is_plus yu) && is_plus yv) && is_plus c))

pub left-signs : (yu yv c dy : Sign) → agree yu dy yv ≡ true → not (is_minus dy) ≡ true → up_by yu yv c + down_by yu yv c ≡ bit ((not (is_plus yu) && is_plus yv) && is_plus c)
left-signs yu yv c dy h k = eqb-true _ _ (imp-out _ _ (imp-out _ _ (all4-out left_1 refl yu yv c dy) h) k)

pub rise-y : (p u v : Vector) → agree (sign (u.y -ℤ p.y)) (sign (v.y -ℤ u.y)) (sign (v.y -ℤ p.y)) ≡ true
rise-y p u v = agree-sum (u.y -ℤ p.y) (v.y -ℤ u.y) (v.y -ℤ p.y) (omega (arith, ints))

-- a ray in a direction d of which the heights tell the sides
pub crossings-left : (d p : Vector) (t : Edge) → ((w : Vector) → sign (cross d w) ≡ sign w.y) → IsRisingEdge t → crossings_at d (from_to p) t ≡ bit (is_left_of p t)
crossings-left d p t h r =
    let u = t.from in let v = t.to in
    let e = left-signs (sign (u.y -ℤ p.y)) (sign (v.y -ℤ p.y)) (sign (cross (from_to p u) (from_to p v))) (sign (v.y -ℤ u.y)) (rise-y p u v) (not-minus-by (sign (v.y -ℤ u.y)) (sign (v.x -ℤ u.x)) r) in
    rw (h (from_to p u), h (from_to p v), orient-round p u v) e

pub east-side : (w : Vector) → sign (cross east w) ≡ sign w.y
east-side w = ap sign (cross-east w)

pub level-side : (d w : Vector) → sign d.y ≡ Null → sign d.x ≡ Plus → sign (cross d w) ≡ sign w.y
level-side d w h k =
    let a = rw (h, k) at (cross-agree d w) in
    same_sign-true (sign (cross d w)) (sign w.y) (imp-out _ _ (all2-out (λ c y. imp (agree c Null (times Plus y)) λ _. same_sign c y) refl (sign (cross d w)) (sign w.y)) a)

pub at-end-by : (p : Vector) (t : Edge) (b c : Bool) → same_point p t.from ≡ b → same_point p t.to ≡ c → (b || c) ≡ true → orient t.from t.to p ≡ Null
at-end-by p t true c h k o = subst (λ w. orient w t.to p ≡ Null) (same_point-true p t.from h) (ap sign (cross-here (from_to p t.to) p))
at-end-by p t false true h k o = subst (λ w. orient t.from w p ≡ Null) (same_point-true p t.to k) (ap sign (cross-self (from_to t.from p)))
at-end-by p t false false h k o = absurd (cc o)

-- a point is not left of an edge that ends there
pub not-left : (p : Vector) (t : Edge) → ends_at p t ≡ true → bit (is_left_of p t) ≡ 0
not-left p t h = bit-and_no (is_in_span p t) (is_plus (orient t.from t.to p)) (ap is_plus (at-end-by p t (same_point p t.from) (same_point p t.to) refl refl h))

pub sector-east : (d w : Vector) → in_sector east d w ≡ sector_by (sign w.x) (sign w.y) (sign d.x) (sign d.y) (sign (cross d w))
sector-east d w = rw (dot-east w, cross-east w, dot-east d, cross-east d)

-- a rising edge is crossed counterclockwise by the ray to the right, or not at all
abbrev rightward_1 : Sign → Sign → Sign → Sign → Bool
rightward_1 yu yv c dy = imp (agree yu dy yv) λ _. imp (not (is_minus dy)) λ _. both (eqb (up_by yu yv c) (bit ((not (is_plus yu) && is_plus yv) && is_plus c))) (eqb (down_by yu yv c) 0)

pub rightward_crossing : (p : Vector) (t : Edge) → IsRisingEdge t → (up_crossing east (from_to p t.from) (from_to p t.to) ≡ bit (is_left_of p t)) × (down_crossing east (from_to p t.from) (from_to p t.to) ≡ 0)
rightward_crossing p t r =
    let u = t.from in let v = t.to in
    let c = imp-out _ _ (imp-out _ _ (all4-out rightward_1 refl (sign (u.y -ℤ p.y)) (sign (v.y -ℤ p.y)) (sign (cross (from_to p u) (from_to p v))) (sign (v.y -ℤ u.y))) (rise-y p u v)) (not-minus-by (sign (v.y -ℤ u.y)) (sign (v.x -ℤ u.x)) r) in
    let e = eqb-true _ _ (left-out _ _ c) in let f = eqb-true _ _ (right-out _ _ c) in
    (rw (cross-east (from_to p u), cross-east (from_to p v), orient-round p u v) e, rw (cross-east (from_to p u), cross-east (from_to p v)) f)

pub crossing-bit : (a b c : Sign) → up_by a b c + down_by a b c ≡ bit (crosses_up a b c || crosses_down a b c)
crossing-bit a b c =
    eqb-true _ _ (all-out (λ z. eqb (up_by a b z + down_by a b z) (bit (crosses_up a b z || crosses_down a b z))) (all2-out (λ x y. all (λ z. eqb (up_by x y z + down_by x y z) (bit (crosses_up x y z || crosses_down x y z)))) refl a b) c)
