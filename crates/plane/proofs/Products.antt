-- Identities of cross and dot products, and the signs that they leave possible.
use Rattle.std.proofs.Common.{Bool, ap, arith, false, refl, subst, sym, true, ◌∙◌, ◌≡◌}
use lib.IntN.{pos, ◌*ℤ◌, ◌+ℤ◌, ◌-ℤ◌}
use Rattle.plane.specs.Sign.{Null, Plus, Sign, is_plus, negated, sign}
use Rattle.plane.specs.Vector.{IsNonZero, Vector, cross, dot, east, from_to}
use Rattle.plane.proofs.Identities.{Split, lift, same, ◌⊞◌, ◌⊟◌, ◌⊠◌}
use Rattle.plane.proofs.Signs.{agree, agree-products, agree-sum, all, all-out, all2-out, imp, imp-out, is_plus-true, null-is, sign-*, sign-reversed, times, times-plus}

-- ---- the identities
pub record Vec2 : Type 0 where
  pub x2 : Split
  pub y2 : Split

abbrev pub lift2 : Vector → Vec2
lift2 a = record { x2 = lift a.x; y2 = lift a.y }

abbrev pub cross2 : Vec2 → Vec2 → Split
cross2 a b = a.x2 ⊠ b.y2 ⊟ a.y2 ⊠ b.x2

abbrev pub dot2 : Vec2 → Vec2 → Split
dot2 a b = a.x2 ⊠ b.x2 ⊞ a.y2 ⊠ b.y2

pub frame : (d a b : Vector) → dot d d *ℤ cross a b +ℤ dot d b *ℤ cross d a ≡ dot d a *ℤ cross d b
frame d a b =
    let e = lift2 d in let u = lift2 a in let v = lift2 b in
    same (dot2 e e ⊠ cross2 u v ⊞ dot2 e v ⊠ cross2 e u) (dot2 e u ⊠ cross2 e v) (omega arith)

pub frame-dot : (d a b : Vector) → dot d a *ℤ dot d b +ℤ cross d a *ℤ cross d b ≡ dot d d *ℤ dot a b
frame-dot d a b =
    let e = lift2 d in let u = lift2 a in let v = lift2 b in
    same (dot2 e u ⊠ dot2 e v ⊞ cross2 e u ⊠ cross2 e v) (dot2 e e ⊠ dot2 u v) (omega arith)

pub plucker : (d c a b : Vector) → cross d c *ℤ cross a b +ℤ cross d b *ℤ cross c a ≡ cross d a *ℤ cross c b
plucker d c a b =
    let e = lift2 d in let f = lift2 c in let u = lift2 a in let v = lift2 b in
    same (cross2 e f ⊠ cross2 u v ⊞ cross2 e v ⊠ cross2 f u) (cross2 e u ⊠ cross2 f v) (omega arith)

pub plucker-dot : (d c a b : Vector) → dot d c *ℤ cross a b +ℤ dot d b *ℤ cross c a ≡ dot d a *ℤ cross c b
plucker-dot d c a b =
    let e = lift2 d in let f = lift2 c in let u = lift2 a in let v = lift2 b in
    same (dot2 e f ⊠ cross2 u v ⊞ dot2 e v ⊠ cross2 f u) (dot2 e u ⊠ cross2 f v) (omega arith)

pub frame-agree : (d a b : Vector) → IsNonZero d →
    agree (times Plus (sign (cross a b))) (times (sign (dot d b)) (sign (cross d a))) (times (sign (dot d a)) (sign (cross d b))) ≡ true
frame-agree d a b p =
    subst (λ (n : Sign). agree (times n (sign (cross a b))) (times (sign (dot d b)) (sign (cross d a))) (times (sign (dot d a)) (sign (cross d b))) ≡ true) p
    (agree-products (dot d d) (cross a b) (dot d b) (cross d a) (dot d a) (cross d b) (frame d a b))

pub frame-dot-agree : (d a b : Vector) → IsNonZero d →
    agree (times (sign (dot d a)) (sign (dot d b))) (times (sign (cross d a)) (sign (cross d b))) (times Plus (sign (dot a b))) ≡ true
frame-dot-agree d a b p =
    subst (λ (n : Sign). agree (times (sign (dot d a)) (sign (dot d b))) (times (sign (cross d a)) (sign (cross d b))) (times n (sign (dot a b))) ≡ true) p
    (agree-products (dot d a) (dot d b) (cross d a) (cross d b) (dot d d) (dot a b) (frame-dot d a b))

pub plucker-agree : (d c a b : Vector) →
    agree (times (sign (cross d c)) (sign (cross a b))) (times (sign (cross d b)) (sign (cross c a))) (times (sign (cross d a)) (sign (cross c b))) ≡ true
plucker-agree d c a b = agree-products (cross d c) (cross a b) (cross d b) (cross c a) (cross d a) (cross c b) (plucker d c a b)

pub plucker-dot-agree : (d c a b : Vector) →
    agree (times (sign (dot d c)) (sign (cross a b))) (times (sign (dot d b)) (sign (cross c a))) (times (sign (dot d a)) (sign (cross c b))) ≡ true
plucker-dot-agree d c a b = agree-products (dot d c) (cross a b) (dot d b) (cross c a) (dot d a) (cross c b) (plucker-dot d c a b)

abbrev pub from_to2 : Vec2 → Vec2 → Vec2
from_to2 p q = record { x2 = q.x2 ⊟ p.x2; y2 = q.y2 ⊟ p.y2 }

pub cross-chain : (d p q r : Vector) → cross d (from_to p q) +ℤ cross d (from_to q r) ≡ cross d (from_to p r)
cross-chain d p q r =
    let e = lift2 d in let u = lift2 p in let v = lift2 q in let w = lift2 r in
    same (cross2 e (from_to2 u v) ⊞ cross2 e (from_to2 v w)) (cross2 e (from_to2 u w)) (omega arith)

pub dot-chain : (d p q r : Vector) → dot d (from_to p q) +ℤ dot d (from_to q r) ≡ dot d (from_to p r)
dot-chain d p q r =
    let e = lift2 d in let u = lift2 p in let v = lift2 q in let w = lift2 r in
    same (dot2 e (from_to2 u v) ⊞ dot2 e (from_to2 v w)) (dot2 e (from_to2 u w)) (omega arith)

-- the side of a line, seen from two points
pub side-moves : (s p u v : Vector) → cross (from_to p u) (from_to p v) +ℤ cross (from_to s p) (from_to u v) ≡ cross (from_to s u) (from_to s v)
side-moves s p u v =
    let s' = lift2 s in let p' = lift2 p in let u' = lift2 u in let v' = lift2 v in
    same (cross2 (from_to2 p' u') (from_to2 p' v') ⊞ cross2 (from_to2 s' p') (from_to2 u' v')) (cross2 (from_to2 s' u') (from_to2 s' v')) (omega arith)

pub dot-here : (d v : Vector) → dot d (from_to v v) ≡ pos 0
dot-here d v = let e = lift2 d in let w = lift2 v in same (dot2 e (from_to2 w w)) (lift (pos 0)) (omega arith)

pub cross-here : (d v : Vector) → cross d (from_to v v) ≡ pos 0
cross-here d v = let e = lift2 d in let w = lift2 v in same (cross2 e (from_to2 w w)) (lift (pos 0)) (omega arith)

pub cross-from-here : (v w : Vector) → cross (from_to v v) w ≡ pos 0
cross-from-here v w = let e = lift2 v in let f = lift2 w in same (cross2 (from_to2 e e) f) (lift (pos 0)) (omega arith)

pub reversed-side : (s t w : Vector) → cross (from_to s t) (from_to s w) +ℤ cross (from_to t s) (from_to t w) ≡ pos 0
reversed-side s t w =
    let s' = lift2 s in let t' = lift2 t in let w' = lift2 w in
    same (cross2 (from_to2 s' t') (from_to2 s' w') ⊞ cross2 (from_to2 t' s') (from_to2 t' w')) (lift (pos 0)) (omega arith)

reversed-dot : (s t p w : Vector) → dot (from_to s t) (from_to p w) +ℤ dot (from_to t s) (from_to p w) ≡ pos 0
reversed-dot s t p w =
    let s' = lift2 s in let t' = lift2 t in let w' = lift2 w in let p' = lift2 p in
    same (dot2 (from_to2 s' t') (from_to2 p' w') ⊞ dot2 (from_to2 t' s') (from_to2 p' w')) (lift (pos 0)) (omega arith)

pub dot-swap : (a b : Vector) → dot b a ≡ dot a b
dot-swap a b = let e = lift2 a in let f = lift2 b in same (dot2 f e) (dot2 e f) (omega arith)

pub dot-there_back : (u p q : Vector) → dot u (from_to p q) +ℤ dot u (from_to q p) ≡ pos 0
dot-there_back u p q =
    let u' = lift2 u in let p' = lift2 p in let q' = lift2 q in
    same (dot2 u' (from_to2 p' q') ⊞ dot2 u' (from_to2 q' p')) (lift (pos 0)) (omega arith)

pub side-reversed : (s t w : Vector) → sign (cross (from_to t s) (from_to t w)) ≡ negated (sign (cross (from_to s t) (from_to s w)))
side-reversed s t w = sign-reversed (cross (from_to s t) (from_to s w)) (cross (from_to t s) (from_to t w)) (reversed-side s t w)

pub dot-reversed : (s t p w : Vector) → sign (dot (from_to t s) (from_to p w)) ≡ negated (sign (dot (from_to s t) (from_to p w)))
dot-reversed s t p w = sign-reversed (dot (from_to s t) (from_to p w)) (dot (from_to t s) (from_to p w)) (reversed-dot s t p w)

abbrev is_nonzero : Sign → Sign → Bool
is_nonzero Null Null = false
is_nonzero s t = true

abbrev square_sum : Sign → Sign → Sign → Bool
square_sum s t n = imp (is_nonzero s t) λ _. imp (agree (times s s) (times t t) n) λ _. is_plus n

nonzero-by : (s t : Sign) → (s ≡ Null → t ≡ Null → ⊥) → is_nonzero s t ≡ true
nonzero-by Null Null h = absurd (h refl refl)
nonzero-by s t h = refl

pub direction-from : (a : Vector) → (a.x ≡ pos 0 → a.y ≡ pos 0 → ⊥) → IsNonZero a
direction-from a h =
    let k = agree-sum (a.x *ℤ a.x) (a.y *ℤ a.y) (dot a a) refl in
    let f = rw (sign-* a.x a.x, sign-* a.y a.y) at k in
    let c = all-out (square_sum (sign a.x) (sign a.y)) (all2-out (λ s t. all (square_sum s t)) refl (sign a.x) (sign a.y)) (sign (dot a a)) in
    is_plus-true (sign (dot a a)) (imp-out _ _ (imp-out _ _ c (nonzero-by (sign a.x) (sign a.y) (λ u v. h ((null-is a.x).0 u) ((null-is a.y).0 v)))) f)

pub cross-direction : (a b : Vector) → sign (cross a b) ≡ Plus → IsNonZero a
cross-direction a b h =
    direction-from a (λ k l.
    let z : cross a b ≡ pos 0 = ap (λ z. z *ℤ b.y -ℤ a.y *ℤ b.x) k ∙ ap (λ z. pos 0 *ℤ b.y -ℤ z *ℤ b.x) l ∙ same (lift (pos 0) ⊠ lift b.y ⊟ lift (pos 0) ⊠ lift b.x) (lift (pos 0)) (omega arith) in
    let y = ap sign z in cc (sym h ∙ y))

-- the side of a line is told from either of its points
pub side-there : (s t w : Vector) → cross (from_to s t) (from_to t w) ≡ cross (from_to s t) (from_to s w)
side-there s t w =
    let s' = lift2 s in let t' = lift2 t in let w' = lift2 w in
    same (cross2 (from_to2 s' t') (from_to2 t' w')) (cross2 (from_to2 s' t') (from_to2 s' w')) (omega arith)

-- an orientation seen from the third point
pub orient-round : (p u v : Vector) → cross (from_to u v) (from_to u p) ≡ cross (from_to p u) (from_to p v)
orient-round p u v =
    let p' = lift2 p in let u' = lift2 u in let v' = lift2 v in
    same (cross2 (from_to2 u' v') (from_to2 u' p')) (cross2 (from_to2 p' u') (from_to2 p' v')) (omega arith)

pub cross-self : (a : Vector) → cross a a ≡ pos 0
cross-self a = let e = lift2 a in same (cross2 e e) (lift (pos 0)) (omega arith)

-- ---- a direction and its opposite
same-length : (a b : Vector) → dot (from_to b a) (from_to b a) ≡ dot (from_to a b) (from_to a b)
same-length a b =
    let a' = lift2 a in let b' = lift2 b in
    same (dot2 (from_to2 b' a') (from_to2 b' a')) (dot2 (from_to2 a' b') (from_to2 a' b')) (omega arith)

pub cross-back : (a b : Vector) → cross (from_to a b) (from_to b a) ≡ pos 0
cross-back a b = let a' = lift2 a in let b' = lift2 b in same (cross2 (from_to2 a' b') (from_to2 b' a')) (lift (pos 0)) (omega arith)

pub direction-back : (a b : Vector) → IsNonZero (from_to a b) → IsNonZero (from_to b a)
direction-back a b h = ap sign (same-length a b) ∙ h

pub dot-east : (a : Vector) → dot east a ≡ a.x
dot-east a = let x = lift a.x in let y = lift a.y in same (lift (pos 1) ⊠ x ⊞ lift (pos 0) ⊠ y) x (omega arith)

-- the cross product, by coordinates
pub cross-agree : (d w : Vector) → agree (sign (cross d w)) (times (sign d.y) (sign w.x)) (times (sign d.x) (sign w.y)) ≡ true
cross-agree d w =
    let a = lift d.x in let b = lift d.y in let c = lift w.x in let e = lift w.y in
    let i : pos 1 *ℤ cross d w +ℤ d.y *ℤ w.x ≡ d.x *ℤ w.y = same (lift (pos 1) ⊠ (a ⊠ e ⊟ b ⊠ c) ⊞ b ⊠ c) (a ⊠ e) (omega arith) in
    let h = agree-products (pos 1) (cross d w) d.y w.x d.x w.y i in
    subst (λ k. agree k (times (sign d.y) (sign w.x)) (times (sign d.x) (sign w.y)) ≡ true) (times-plus (sign (cross d w))) h

pub cross-reversed : (a b : Vector) → cross a b +ℤ cross b a ≡ pos 0
cross-reversed a b = let e = lift2 a in let f = lift2 b in same (cross2 e f ⊞ cross2 f e) (lift (pos 0)) (omega arith)

pub cross-negated : (a b : Vector) → sign (cross b a) ≡ negated (sign (cross a b))
cross-negated a b = sign-reversed (cross a b) (cross b a) (cross-reversed a b)
