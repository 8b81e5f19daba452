-- A point on an edge is one of its ends or strictly between them.
use Rattle.std.proofs.Common.{ap, arith, false, not, refl, sym, true, ◌∙◌, ◌≡◌}
use lib.IntN.{◌+ℤ◌}
use Rattle.plane.specs.Edge.{Edge}
use Rattle.plane.specs.FreeSegment.{IsBetween}
use Rattle.plane.specs.RayCrossing.{is_off, off_by}
use Rattle.plane.specs.Sign.{Minus, Null, Plus, Sign, is_plus, sign}
use Rattle.plane.specs.Vector.{IsNonZero, Vector, cross, dot, from_to, same_point}
use Rattle.lists.proofs.ListsKit.{same_from_difference}
use Rattle.plane.proofs.Identities.{same, ◌⊞◌}
use Rattle.plane.proofs.Points.{same_point-refl, same_vector}
use Rattle.plane.proofs.Products.{direction-from, dot2, from_to2, lift2, orient-round}
use Rattle.plane.proofs.RayCrossings.{off_by-no}
use Rattle.plane.proofs.Signs.{agree, agree-sum}

-- the way to another point
pub step-direction : (p q : Vector) → same_point p q ≡ false → IsNonZero (from_to p q)
step-direction p q h =
    direction-from (from_to p q) (λ k l.
    let e = same_vector p.x p.y q.x q.y (sym (same_from_difference q.x p.x k)) (sym (same_from_difference q.y p.y l)) in
    let f = ap (same_point p) e in let g = same_point-refl p in cc (sym g ∙ f ∙ h))

pub off_by-plus : (c s : Sign) → off_by c s ≡ false → not (is_plus s) ≡ true
off_by-plus Null Null h = refl
off_by-plus Null Minus h = refl
off_by-plus Null Plus h = cc
off_by-plus Minus s h = cc
off_by-plus Plus s h = cc

first-plus : (s t u : Sign) → agree s t u ≡ true → not (is_plus t) ≡ true → u ≡ Plus → s ≡ Plus
first-plus Plus t u a n h = refl
first-plus Null Null u a n h = cc
first-plus Null Minus u a n h = cc
first-plus Null Plus u a n h = cc
first-plus Minus Null u a n h = cc
first-plus Minus Minus u a n h = cc
first-plus Minus Plus u a n h = cc

-- how far p is behind s, and before t, along the way from s to t
after : (s t p : Vector) → dot (from_to s t) (from_to s p) +ℤ dot (from_to p s) (from_to p t) ≡ dot (from_to p s) (from_to p s)
after s t p =
    let s' = lift2 s in let t' = lift2 t in let p' = lift2 p in
    same (dot2 (from_to2 s' t') (from_to2 s' p') ⊞ dot2 (from_to2 p' s') (from_to2 p' t')) (dot2 (from_to2 p' s') (from_to2 p' s')) (omega arith)

before : (s t p : Vector) → dot (from_to s t) (from_to p t) +ℤ dot (from_to p s) (from_to p t) ≡ dot (from_to p t) (from_to p t)
before s t p =
    let s' = lift2 s in let t' = lift2 t in let p' = lift2 p in
    same (dot2 (from_to2 s' t') (from_to2 p' t') ⊞ dot2 (from_to2 p' s') (from_to2 p' t')) (dot2 (from_to2 p' t') (from_to2 p' t')) (omega arith)

pub on-between : (s : Edge) (p : Vector) → is_off p s ≡ false → same_point p s.from ≡ false → same_point p s.to ≡ false → IsBetween s.from s.to p
on-between s p o f t =
    let c = sign (cross (from_to p s.from) (from_to p s.to)) in let d = sign (dot (from_to p s.from) (from_to p s.to)) in
    let n = off_by-plus c d o in
    record {
      on_line = ap sign (orient-round p s.from s.to) ∙ off_by-no c d o;
      after_s = first-plus (sign (dot (from_to s.from s.to) (from_to s.from p))) d (sign (dot (from_to p s.from) (from_to p s.from)))
          (agree-sum (dot (from_to s.from s.to) (from_to s.from p)) (dot (from_to p s.from) (from_to p s.to)) (dot (from_to p s.from) (from_to p s.from)) (after s.from s.to p)) n (step-direction p s.from f);
      before_t = first-plus (sign (dot (from_to s.from s.to) (from_to p s.to))) d (sign (dot (from_to p s.to) (from_to p s.to)))
          (agree-sum (dot (from_to s.from s.to) (from_to p s.to)) (dot (from_to p s.from) (from_to p s.to)) (dot (from_to p s.to) (from_to p s.to)) (before s.from s.to p)) n (step-direction p s.to t);
    }
