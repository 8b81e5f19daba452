-- Points on an edge: its ends, and those strictly between them. A point on two edges that don't conflict is an end of both.
use Rattle.std.proofs.Common.{◌≡◌, Bool, true, false, not, ◌||◌, refl, sym, ap, ◌∙◌, pos}
use Rattle.plane.specs.Conflict.{IsClearOf}
use Rattle.plane.specs.Edge.{Edge, IsRisingEdge, ends_at}
use Rattle.plane.specs.FreeSegment.{IsBetween}
use Rattle.plane.specs.Order.{order}
use Rattle.plane.specs.RayCrossing.{is_off, off_by}
use Rattle.plane.specs.Sign.{Sign, Null, Plus, Minus, is_minus, is_null, is_plus, negated, sign}
use Rattle.plane.specs.Vector.{Vector, cross, dot, from_to, orient, same_point}
use Rattle.plane.proofs.PlaneKit.{clear_misses, inner_point_off, line-order, line-order-up, order-reversed, order-self, order-sum, cross-chain, cross-self, orient-round, off_by-no}
use Rattle.plane.proofs.SignKit.{agree, null-zero, sum-zero-left, times}

-- ---- the signs: where an edge's two ends are in the order, seen from a point on its line
on_signs : (g k : Sign) → not (is_plus g) ≡ true → not (is_minus k) ≡ true → off_by Null (times g k) ≡ false
on_signs Null k a b = refl
on_signs Minus Null a b = refl
on_signs Minus Plus a b = refl
on_signs Minus Minus a b = absurd (cc b)
on_signs Plus k a b = absurd (cc a)

inner_signs : (g k : Sign) → agree g Plus k ≡ true → not (is_null g) ≡ true → not (is_null k) ≡ true → off_by Null (times g k) ≡ false → (g ≡ Minus) × (k ≡ Plus)
inner_signs Minus Plus h a b on = (refl, refl)
inner_signs Minus Minus h a b on = absurd (cc on)
inner_signs Minus Null h a b on = absurd (cc b)
inner_signs Null k h a b on = absurd (cc a)
inner_signs Plus Plus h a b on = absurd (cc on)
inner_signs Plus Minus h a b on = absurd (cc h)
inner_signs Plus Null h a b on = absurd (cc b)

-- a point on the line of an edge, not before its first end and not after its second
pub on_where : (p : Vector) (e : Edge) → orient e.from e.to p ≡ Null → not (is_plus (order p e.from)) ≡ true → not (is_minus (order p e.to)) ≡ true → is_off p e ≡ false
on_where p e line after before =
    let a = e.from in let b = e.to in
    let flat : sign (cross (from_to p a) (from_to p b)) ≡ Null = sym (ap sign (orient-round p a b)) ∙ line in
    rw (flat, line-order p a p b flat) (on_signs (order p a) (order p b) after before)

-- a point on an edge that is none of its ends
pub between_where : (p : Vector) (e : Edge) → IsRisingEdge e → is_off p e ≡ false → same_point p e.from ≡ false → same_point p e.to ≡ false → IsBetween e.from e.to p
between_where p e rising on not_from not_to =
    let a = e.from in let b = e.to in let d = from_to a b in
    let flat = off_by-no (sign (cross (from_to p a) (from_to p b))) (sign (dot (from_to p a) (from_to p b))) on in
    let line : sign (cross d (from_to a p)) ≡ Null = ap sign (orient-round p a b) ∙ flat in
    let rest : cross d (from_to p b) ≡ pos 0 = sum-zero-left (cross d (from_to a p)) (cross d (from_to p b)) (cross d d) (null-zero (cross d (from_to a p)) line) (cross-chain d a p b) ∙ cross-self d in
    let sum : agree (order p a) Plus (order p b) ≡ true = rw rising at (order-sum p a b) in
    let seen : off_by Null (times (order p a) (order p b)) ≡ false = rw (flat, line-order p a p b flat) at on in
    let signs = inner_signs (order p a) (order p b) sum (order-self p a not_from) (order-self p b not_to) seen in
    record {
      on_line = line;
      after_s = line-order-up a b a p rising line ∙ order-reversed p a ∙ ap negated signs.0;
      before_t = line-order-up a b p b rising (ap sign rest) ∙ signs.1;
    }

-- a point on two edges that don't conflict is an end of the first
pub ends_where : (p : Vector) (s t : Edge) → IsRisingEdge s → IsRisingEdge t → IsClearOf s t → is_off p s ≡ false → is_off p t ≡ false → ends_at p s ≡ true
ends_where p s t rising_s rising_t clear on_s on_t = ends_by (same_point p s.from) (same_point p s.to) refl refl
  where
    ends_by : (b c : Bool) → same_point p s.from ≡ b → same_point p s.to ≡ c → (b || c) ≡ true
    ends_by true c e f = refl
    ends_by false true e f = refl
    ends_by false false e f =
        let off : is_off p t ≡ true = inner_point_off s.from s.to p t (between_where p s rising_s on_s e f) (clear_misses s t rising_s rising_t clear) in
        absurd (cc (sym on_t ∙ off))
