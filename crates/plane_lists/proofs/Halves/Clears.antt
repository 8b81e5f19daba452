-- Edges that share no point but ends of both, in whichever direction they run.
use Rattle.std.proofs.Common.{Bool, ap, cond, false, inl, inr, not, refl, subst, sym, true, ◌&&◌, ◌||◌, ◌∙◌, ◌≡◌, ◌⊎◌}
use lib.IntN.{pos, ◌+ℤ◌}
use Rattle.plane.specs.Conflict.{IsClearOf, is_parted_by, is_touched_by, overlaps}
use Rattle.plane.specs.Edge.{Edge, IsRisingEdge, is_rising, reversed, segment_of}
use Rattle.plane.specs.FreeSegment.{Misses, misses_by}
use Rattle.plane.specs.Order.{order}
use Rattle.plane.specs.Sign.{Minus, Null, Plus, Sign, are_opposite, is_null, is_plus, negated, sign}
use Rattle.plane.specs.Vector.{IsNonZero, Vector, cross, dot, from_to, orient}
use Rattle.plane.proofs.PlaneKit.{clear_back, clear_misses, overlap_by, overlaps-by, match-by, same_edge_by, misses_reversed, line-order-up, order-reversed, rising-direction, cross-here, cross-negated, direction-back, dot-chain, dot-here, frame-agree, orient-round, side-there, dot-there_back, dot-swap}
use Rattle.plane.proofs.SignKit.{agree, agree-sum, all, all-out, all2, all2-out, all4, all4-out, both, imp, imp-out, left-out, right-out, same_sign, same_sign-true, sign-reversed, times}
use Rattle.plane_lists.specs.Halves.Line.{Line}
use Rattle.plane_lists.proofs.Halves.Means.{IsMean, mean-back, mean-cross, mean-dot, mean-first, mean-second}
use Rattle.plane_lists.proofs.Halves.Sides.{IsCutFrom, IsCutTo, IsWholePart}
use Rattle.lists.proofs.ListsKit.{not-true-out}

-- neither has a point of the other strictly between its ends
pub record AreClear (s t : Edge) : Type 0 where
  pub first : Misses s.from s.to t
  pub second : Misses t.from t.to s

pub clear-swap : (s t : Edge) → AreClear s t → AreClear t s
clear-swap s t h = record { first = h.second; second = h.first }

-- ---- the other direction
abbrev turned_1 : Sign → Sign → Sign → Sign → Sign → Sign → Sign → Sign → Bool
turned_1 a b cs ct us vs ut vt = imp (misses_by a b cs ct us vs ut vt) λ _. misses_by b a (negated cs) (negated ct) vs us vt ut

turned_computes : all4 (λ a b cs ct. all4 (turned_1 a b cs ct)) ≡ true
turned_computes = refl

pub misses-turned : (s t : Vector) (e : Edge) → Misses s t e → Misses s t (reversed e)
misses-turned s t e m =
    let u = e.from in let v = e.to in
    let c = all4-out (turned_1 (sign (cross (from_to s t) (from_to s u))) (sign (cross (from_to s t) (from_to s v))) (sign (cross (from_to s u) (from_to s v))) (sign (cross (from_to t u) (from_to t v))))
    (all4-out (λ a b cs ct. all4 (turned_1 a b cs ct)) turned_computes (sign (cross (from_to s t) (from_to s u))) (sign (cross (from_to s t) (from_to s v))) (sign (cross (from_to s u) (from_to s v))) (sign (cross (from_to t u) (from_to t v))))
    (sign (dot (from_to s t) (from_to s u))) (sign (dot (from_to s t) (from_to s v))) (sign (dot (from_to s t) (from_to t u))) (sign (dot (from_to s t) (from_to t v))) in
    rw (cross-negated (from_to s u) (from_to s v), cross-negated (from_to t u) (from_to t v)) (imp-out _ _ c m)

pub clear-turned : (s t : Edge) → AreClear s t → AreClear (reversed s) t
clear-turned s t h = record { first = misses_reversed s.from s.to t h.first; second = misses-turned t.from t.to s h.second }

turned-by : (b : Bool) (s t : Edge) → AreClear s t → AreClear (cond b s (reversed s)) t
turned-by true s t h = h
turned-by false s t h = clear-turned s t h

turned-back : (b : Bool) (s t : Edge) → AreClear (cond b s (reversed s)) t → AreClear s t
turned-back true s t h = h
turned-back false s t h = clear-turned (reversed s) t h

pub clear-segment : (s t : Edge) → AreClear s t → AreClear (segment_of s) t
clear-segment s t h = turned-by (is_rising s) s t h

pub segment-clear : (s t : Edge) → AreClear (segment_of s) t → AreClear s t
segment-clear s t h = turned-back (is_rising s) s t h

pub both-segments : (s t : Edge) → AreClear s t → AreClear (segment_of s) (segment_of t)
both-segments s t h = clear-swap (segment_of t) (segment_of s) (clear-segment t (segment_of s) (clear-swap (segment_of s) t (clear-segment s t h)))

pub from-segments : (s t : Edge) → AreClear (segment_of s) (segment_of t) → AreClear s t
from-segments s t h = clear-swap t s (segment-clear t s (clear-swap s (segment_of t) (segment-clear s (segment_of t) h)))

-- ---- clear segments have no conflict
abbrev match_when : Sign → Sign → Sign → Bool
match_when Null s t = same_sign s t
match_when a s t = true

abbrev touch_by : Sign → Sign → Sign → Bool
touch_by a h m = is_null a && (is_plus h && is_plus m)

abbrev apart_3 : Sign → Sign → Sign → Sign → Sign → Sign → Sign → Sign → Sign → Sign → Sign → Sign → Bool
apart_3 a b c d us vs ut vt h k m n =
    imp (match_when a us h) λ _.
    imp (match_when b vs k) λ _.
    imp (match_when a ut m) λ _.
    imp (match_when b vt n) λ _.
    both (not (overlap_by a b c d k m)) (both (not (touch_by a h (negated m) || touch_by b k (negated n))) (not (are_opposite a b && are_opposite c d)))

abbrev apart_2 : Sign → Sign → Sign → Sign → Sign → Sign → Sign → Sign → Bool
apart_2 a b c d us vs ut vt =
    imp (misses_by a b c d us vs ut vt) λ _.
    imp (agree (times Plus c) (times vs a) (times us b)) λ _.
    imp (agree (times Plus d) (times vt a) (times ut b)) λ _.
    all4 (apart_3 a b c d us vs ut vt)

abbrev apart_1 : Sign → Sign → Sign → Sign → Bool
apart_1 a b c d = all4 (apart_2 a b c d)

apart_computes : all4 apart_1 ≡ true
apart_computes = refl

pub record NoConflict (s t : Edge) : Type 0 where
  pub no_overlap : overlaps s t ≡ false
  pub no_touch : is_touched_by s t ≡ false
  pub no_parting : (is_parted_by t s && is_parted_by s t) ≡ false

half-clear : (s t : Edge) → IsRisingEdge s → Misses s.from s.to t → NoConflict s t
half-clear s t hs missed =
    let p = s.from in let q = s.to in let u = t.from in let v = t.to in let st = from_to p q in
    let dir = rising-direction p q hs in
    let eu = side-there p q u in let ev = side-there p q v in
    let f1 = frame-agree st (from_to p u) (from_to p v) dir in
    let f2 = rw (eu, ev) at (frame-agree st (from_to q u) (from_to q v) dir) in
    let g1 = all4-out (apart_2 (sign (cross st (from_to p u))) (sign (cross st (from_to p v))) (sign (cross (from_to p u) (from_to p v))) (sign (cross (from_to q u) (from_to q v))))
    (all4-out apart_1 apart_computes (sign (cross st (from_to p u))) (sign (cross st (from_to p v))) (sign (cross (from_to p u) (from_to p v))) (sign (cross (from_to q u) (from_to q v))))
    (sign (dot st (from_to p u))) (sign (dot st (from_to p v))) (sign (dot st (from_to q u))) (sign (dot st (from_to q v))) in
    let g2 = all4-out (apart_3 (sign (cross st (from_to p u))) (sign (cross st (from_to p v))) (sign (cross (from_to p u) (from_to p v))) (sign (cross (from_to q u) (from_to q v)))
    (sign (dot st (from_to p u))) (sign (dot st (from_to p v))) (sign (dot st (from_to q u))) (sign (dot st (from_to q v))))
    (imp-out _ _ (imp-out _ _ (imp-out _ _ g1 missed) f1) f2) (order p u) (order p v) (order q u) (order q v) in
    let g3 = imp-out _ _ (imp-out _ _ (imp-out _ _ (imp-out _ _ g2
    (match-by _ _ _ (λ z. line-order-up p q p u hs z)))
    (match-by _ _ _ (λ z. line-order-up p q p v hs z)))
    (match-by _ _ _ (λ z. line-order-up p q q u hs (ap sign eu ∙ z))))
    (match-by _ _ _ (λ z. line-order-up p q q v hs (ap sign ev ∙ z))) in
    let r = right-out _ _ g3 in
    let cu = ap sign (sym (orient-round p u v)) in let cv = ap sign (sym (orient-round q u v)) in
    record {
      no_overlap = overlaps-by s t ∙ not-true-out _ (rw (orient-round p u v, orient-round q u v) (left-out _ _ g3));
      no_touch = not-true-out _ (rw (order-reversed q u, order-reversed q v) (left-out _ _ r));
      no_parting = not-true-out _ (rw (orient-round p u v, orient-round q u v) (right-out _ _ r));
    }

conflicts-by-parts : (o t1 t2 p : Bool) → o ≡ false → t1 ≡ false → t2 ≡ false → p ≡ false → (o || (not o && ((t1 || t2) || p))) ≡ false
conflicts-by-parts false false false false h k m n = refl
conflicts-by-parts true t1 t2 p h k m n = absurd (cc h)
conflicts-by-parts false true t2 p h k m n = absurd (cc k)
conflicts-by-parts false false true p h k m n = absurd (cc m)
conflicts-by-parts false false false true h k m n = absurd (cc n)

pub clear-of : (s t : Edge) → IsRisingEdge s → IsRisingEdge t → AreClear s t → IsClearOf s t
clear-of s t hs ht h =
    let a = half-clear s t hs h.first in let b = half-clear t s ht h.second in
    conflicts-by-parts (overlaps s t) (is_touched_by s t) (is_touched_by t s) (is_parted_by t s && is_parted_by s t) a.no_overlap a.no_touch b.no_touch a.no_parting

pub of-clear : (s t : Edge) → IsRisingEdge s → IsRisingEdge t → IsClearOf s t → AreClear s t
of-clear s t hs ht h = record { first = clear_misses s t hs ht h; second = clear_misses t s ht hs (clear_back s t h) }

-- ---- a part of an edge is clear of what the edge is clear of
first-null : (x y z : Sign) → agree x y z ≡ true → x ≡ Null → z ≡ y
first-null Null y z h e = sym (same_sign-true y z (imp-out _ _ (all2-out (λ y z. imp (agree Null y z) λ _. same_sign y z) refl y z) h))
first-null Plus y z h e = absurd (cc e)
first-null Minus y z h e = absurd (cc e)

-- a mean is in the direction of the second end, seen from the first
mean-cross-from : (a b z w : Vector) → IsMean a b z → sign (cross w (from_to a z)) ≡ sign (cross w (from_to a b))
mean-cross-from a b z w i = first-null _ _ _ (mean-cross a b z i w a) (ap sign (cross-here w a))

mean-cross-of : (a b z w : Vector) → IsMean a b z → sign (cross (from_to a z) w) ≡ sign (cross (from_to a b) w)
mean-cross-of a b z w i = cross-negated w (from_to a z) ∙ ap negated (mean-cross-from a b z w i) ∙ sym (cross-negated w (from_to a b))

mean-dot-from : (a b z w : Vector) → IsMean a b z → sign (dot w (from_to a z)) ≡ sign (dot w (from_to a b))
mean-dot-from a b z w i = first-null _ _ _ (mean-dot a b z i w a) (ap sign (dot-here w a))

mean-dot-of : (a b z w : Vector) → IsMean a b z → sign (dot (from_to a z) w) ≡ sign (dot (from_to a b) w)
mean-dot-of a b z w i = ap sign (dot-swap w (from_to a z)) ∙ mean-dot-from a b z w i ∙ ap sign (sym (dot-swap w (from_to a b)))

dot-back : (d p q : Vector) → sign (dot d (from_to p q)) ≡ negated (sign (dot d (from_to q p)))
dot-back d p q = sign-reversed (dot d (from_to q p)) (dot d (from_to p q)) (dot-there_back d q p)

ahead-by : (st s t z : Vector) → IsNonZero (from_to s t) → sign (dot (from_to s t) (from_to t z)) ≡ sign (dot (from_to s t) (from_to t s)) → sign (dot (from_to s t) (from_to z t)) ≡ Plus
ahead-by st s t z d h =
    dot-back (from_to s t) z t ∙ ap negated (h ∙ dot-back (from_to s t) t s ∙ ap negated d)

abbrev nearer_2 : Sign → Sign → Sign → Sign → Sign → Sign → Sign → Sign → Sign → Sign → Sign → Bool
nearer_2 a b cs ct us vs ut vt cz uz vz =
    imp (agree Plus ut uz) λ _.
    imp (agree Plus vt vz) λ _.
    misses_by a b cs cz us vs uz vz

abbrev nearer_1 : Sign → Sign → Sign → Sign → Sign → Sign → Sign → Sign → Bool
nearer_1 a b cs ct us vs ut vt =
    imp (misses_by a b cs ct us vs ut vt) λ _. all λ cz. imp (agree cs ct cz) λ _. all2 (nearer_2 a b cs ct us vs ut vt cz)

nearer_computes : all4 (λ a b cs ct. all4 (nearer_1 a b cs ct)) ≡ true
nearer_computes = refl

-- with a nearer end
misses-nearer : (s t z : Vector) (e : Edge) → IsNonZero (from_to s t) → IsMean s t z → Misses s t e → Misses s z e
misses-nearer s t z e d i missed =
    let u = e.from in let v = e.to in let st = from_to s t in
    let a = sign (cross st (from_to s u)) in let b = sign (cross st (from_to s v)) in
    let cs = sign (cross (from_to s u) (from_to s v)) in let ct = sign (cross (from_to t u) (from_to t v)) in let cz = sign (cross (from_to z u) (from_to z v)) in
    let us = sign (dot st (from_to s u)) in let vs = sign (dot st (from_to s v)) in let ut = sign (dot st (from_to t u)) in let vt = sign (dot st (from_to t v)) in
    let uz = sign (dot st (from_to z u)) in let vz = sign (dot st (from_to z v)) in
    let m = mean-cross s t z i (from_to u v) u in
    let m' : agree cs ct cz ≡ true = subst (λ x. agree x ct cz ≡ true) (ap sign (orient-round s u v)) (subst (λ y. agree (orient u v s) y cz ≡ true) (ap sign (orient-round t u v)) (subst (λ w. agree (orient u v s) (orient u v t) w ≡ true) (ap sign (orient-round z u v)) m)) in
    -- t is ahead of z
    let back = first-null _ _ _ (mean-dot t s z (mean-back s t z i) st t) (ap sign (dot-here st t)) in
    let ahead : sign (dot st (from_to z t)) ≡ Plus = ahead-by st s t z d back in
    let ku = subst (λ x. agree x ut uz ≡ true) ahead (agree-sum (dot st (from_to z t)) (dot st (from_to t u)) (dot st (from_to z u)) (dot-chain st z t u)) in
    let kv = subst (λ x. agree x vt vz ≡ true) ahead (agree-sum (dot st (from_to z t)) (dot st (from_to t v)) (dot st (from_to z v)) (dot-chain st z t v)) in
    let g1 = imp-out _ _ (all4-out (nearer_1 a b cs ct) (all4-out (λ a b cs ct. all4 (nearer_1 a b cs ct)) nearer_computes a b cs ct) us vs ut vt) missed in
    let g2 = all2-out (nearer_2 a b cs ct us vs ut vt cz) (imp-out _ _ (all-out (λ cz. imp (agree cs ct cz) λ _. all2 (nearer_2 a b cs ct us vs ut vt cz)) g1 cz) m') uz vz in
    rw (mean-cross-of s t z (from_to s u) i, mean-cross-of s t z (from_to s v) i, mean-dot-of s t z (from_to s u) i, mean-dot-of s t z (from_to s v) i, mean-dot-of s t z (from_to z u) i, mean-dot-of s t z (from_to z v) i)
    (imp-out _ _ (imp-out _ _ g2 ku) kv)

misses-nearer-back : (s t z : Vector) (e : Edge) → IsNonZero (from_to s t) → IsMean s t z → Misses s t e → Misses z t e
misses-nearer-back s t z e d i missed = misses_reversed t z e (misses-nearer t s z e (direction-back s t d) (mean-back s t z i) (misses_reversed s t e missed))

abbrev shorter_2 : Sign → Sign → Sign → Sign → Sign → Sign → Sign → Sign → Sign → Sign → Sign → Bool
shorter_2 a b cs ct us vs ut vt z uz wz =
    imp (agree us vs uz) λ _.
    imp (agree ut vt wz) λ _.
    both (misses_by a z cs ct us uz ut wz) (misses_by z b cs ct uz vs wz vt)

abbrev shorter_1 : Sign → Sign → Sign → Sign → Sign → Sign → Sign → Sign → Bool
shorter_1 a b cs ct us vs ut vt =
    imp (misses_by a b cs ct us vs ut vt) λ _. all λ z. imp (agree a b z) λ _. all2 (shorter_2 a b cs ct us vs ut vt z)

shorter_computes : all4 (λ a b cs ct. all4 (shorter_1 a b cs ct)) ≡ true
shorter_computes = refl

module _ (s t u v z : Vector) (i : IsMean u v z) (missed : Misses s t (record { from = u; to = v })) where
  abbrev st : Vector
  st = from_to s t

  shorter : both (misses_by (sign (cross st (from_to s u))) (sign (cross st (from_to s z))) (sign (cross (from_to s u) (from_to s v))) (sign (cross (from_to t u) (from_to t v)))
      (sign (dot st (from_to s u))) (sign (dot st (from_to s z))) (sign (dot st (from_to t u))) (sign (dot st (from_to t z))))
      (misses_by (sign (cross st (from_to s z))) (sign (cross st (from_to s v))) (sign (cross (from_to s u) (from_to s v))) (sign (cross (from_to t u) (from_to t v)))
      (sign (dot st (from_to s z))) (sign (dot st (from_to s v))) (sign (dot st (from_to t z))) (sign (dot st (from_to t v)))) ≡ true
  shorter =
      let a = sign (cross st (from_to s u)) in let b = sign (cross st (from_to s v)) in
      let cs = sign (cross (from_to s u) (from_to s v)) in let ct = sign (cross (from_to t u) (from_to t v)) in
      let us = sign (dot st (from_to s u)) in let vs = sign (dot st (from_to s v)) in let ut = sign (dot st (from_to t u)) in let vt = sign (dot st (from_to t v)) in
      let g1 = imp-out _ _ (all4-out (shorter_1 a b cs ct) (all4-out (λ a b cs ct. all4 (shorter_1 a b cs ct)) shorter_computes a b cs ct) us vs ut vt) missed in
      let g2 = all2-out (shorter_2 a b cs ct us vs ut vt (sign (cross st (from_to s z))))
      (imp-out _ _ (all-out (λ z. imp (agree a b z) λ _. all2 (shorter_2 a b cs ct us vs ut vt z)) g1 (sign (cross st (from_to s z)))) (mean-cross u v z i st s))
      (sign (dot st (from_to s z))) (sign (dot st (from_to t z))) in
      imp-out _ _ (imp-out _ _ g2 (mean-dot u v z i st s)) (mean-dot u v z i st t)

  misses-shorter : Misses s t (record { from = u; to = z })
  misses-shorter = rw (mean-first u v z i s, mean-first u v z i t) (left-out _ _ shorter)

  misses-shorter-back : Misses s t (record { from = z; to = v })
  misses-shorter-back = rw (mean-second u v z i s, mean-second u v z i t) (right-out _ _ shorter)

-- e and its part t
pub part-clear : (l : Line) (e t f : Edge) → IsNonZero (from_to e.from e.to) → IsWholePart l e t ⊎ (IsCutFrom l e t ⊎ IsCutTo l e t) → AreClear e f → AreClear t f
part-clear l e t f d (inl w) h = subst (λ x. AreClear x f) (sym (same_edge_by t.from t.to e.from e.to w.from w.to)) h
part-clear l e t f d (inr (inl w)) h =
    subst (λ x. AreClear (record { from = t.from; to = x }) f) (sym w.to)
    (record { first = misses-nearer-back e.from e.to t.from f d w.mean h.first; second = misses-shorter-back f.from f.to e.from e.to t.from w.mean h.second })
part-clear l e t f d (inr (inr w)) h =
    subst (λ x. AreClear (record { from = x; to = t.to }) f) (sym w.from)
    (record { first = misses-nearer e.from e.to t.to f d w.mean h.first; second = misses-shorter f.from f.to e.from e.to t.to w.mean h.second })
