-- Two segments with and without conflict.
use Rattle.std.proofs.Common.{Bool, ap, false, not, refl, subst, sym, true, ◌&&◌, ◌||◌, ◌∙◌, ◌≡◌}
use Rattle.plane.specs.Conflict.{IsClearOf, conflicts, crosses, overlaps}
use Rattle.plane.specs.Edge.{Edge, IsRisingEdge, ends_at, same_edge}
use Rattle.plane.specs.FreeSegment.{Misses, misses_by}
use Rattle.plane.specs.Order.{order}
use Rattle.plane.specs.RayCrossing.{IsOff, IsOffEdge, off_by}
use Rattle.plane.specs.Sign.{Minus, Null, Plus, Sign, are_opposite, is_minus, is_null, is_plus, negated, sign}
use Rattle.plane.specs.Vector.{Vector, cross, dot, from_to, orient, same_point}
use Rattle.plane.proofs.Edges.{same_edge-true}
use Rattle.plane.proofs.PointOrder.{line-order, line-order-up, order-reversed, order-self, order-sum, rising-direction}
use Rattle.plane.proofs.Points.{same_point-true}
use Rattle.plane.proofs.Products.{cross-here, cross-self, dot-chain, frame-agree, orient-round, side-there}
use Rattle.plane.proofs.Signs.{agree, all4, all4-out, both, imp, imp-out, left-out, right-out, same_bool, same_bool-true, same_sign, same_sign-refl, sum-with-plus, times}

-- ---- a conflict, by signs: the sides of t's ends (a, b) and of s's ends (c, d); then where t's two ends are in the order, seen from s's lower end (h, k) and from its upper end (m, n)
abbrev touch_by : Sign → Sign → Sign → Bool
touch_by a h m = is_null a && (is_plus h && is_plus m)

abbrev pub overlap_by : Sign → Sign → Sign → Sign → Sign → Sign → Bool
overlap_by a b c d k m = ((is_null a && is_null b) && (is_null c && is_null d)) && (is_plus k && is_plus (negated m))

abbrev pub cross_by : Sign → Sign → Sign → Sign → Sign → Sign → Sign → Sign → Bool
cross_by a b c d h k m n =
    not (overlap_by a b c d k m)
    && (((touch_by a h (negated m) || touch_by b k (negated n)) || (touch_by c (negated h) k || touch_by d (negated m) n)) || (are_opposite a b && are_opposite c d))

abbrev pub conflict_by : Sign → Sign → Sign → Sign → Sign → Sign → Sign → Sign → Bool
conflict_by a b c d h k m n = overlap_by a b c d k m || cross_by a b c d h k m n

pub overlaps-by : (s t : Edge) →
    overlaps s t ≡ overlap_by (orient s.from s.to t.from) (orient s.from s.to t.to) (orient t.from t.to s.from) (orient t.from t.to s.to) (order s.from t.to) (order s.to t.from)
overlaps-by s t = rw (order-reversed s.to t.from)

pub crosses-by : (s t : Edge) →
    crosses s t ≡ cross_by (orient s.from s.to t.from) (orient s.from s.to t.to) (orient t.from t.to s.from) (orient t.from t.to s.to)
    (order s.from t.from) (order s.from t.to) (order s.to t.from) (order s.to t.to)
crosses-by s t = rw (order-reversed s.to t.from, order-reversed s.to t.to, order-reversed s.from t.from)

pub conflicts-by : (s t : Edge) →
    conflicts s t ≡ conflict_by (orient s.from s.to t.from) (orient s.from s.to t.to) (orient t.from t.to s.from) (orient t.from t.to s.to)
    (order s.from t.from) (order s.from t.to) (order s.to t.from) (order s.to t.to)
conflicts-by s t = rw (order-reversed s.to t.from, order-reversed s.to t.to, order-reversed s.from t.from)

-- ---- the signs: a, b, c, d as for `conflict_by` (c, d seen from s's ends), where t's ends are along s, and where they are in the order
abbrev match_when : Sign → Sign → Sign → Bool
match_when Null s t = same_sign s t
match_when a s t = true

abbrev clear_3 : Sign → Sign → Sign → Sign → Sign → Sign → Sign → Sign → Sign → Sign → Sign → Sign → Bool
clear_3 a b c d us vs ut vt h k m n =
    imp (match_when a us h) λ _.
    imp (match_when b vs k) λ _.
    imp (match_when a ut m) λ _.
    imp (match_when b vt n) λ _.
    imp (agree h Plus k) λ _.
    imp (agree m Plus n) λ _.
    imp (not (conflict_by a b c d h k m n)) λ _.
    misses_by a b c d us vs ut vt

abbrev clear_2 : Sign → Sign → Sign → Sign → Sign → Sign → Sign → Sign → Bool
clear_2 a b c d us vs ut vt =
    imp (agree (times Plus c) (times vs a) (times us b)) λ _.
    imp (agree (times Plus d) (times vt a) (times ut b)) λ _.
    imp (agree Plus ut us) λ _.
    imp (agree Plus vt vs) λ _.
    all4 (clear_3 a b c d us vs ut vt)

abbrev clear_1 : Sign → Sign → Sign → Sign → Bool
clear_1 a b c d = all4 (clear_2 a b c d)

clear_computes : all4 clear_1 ≡ true
clear_computes = refl

clear_signs : (a b c d us vs ut vt h k m n : Sign) →
    agree (times Plus c) (times vs a) (times us b) ≡ true → agree (times Plus d) (times vt a) (times ut b) ≡ true → agree Plus ut us ≡ true → agree Plus vt vs ≡ true →
    match_when a us h ≡ true → match_when b vs k ≡ true → match_when a ut m ≡ true → match_when b vt n ≡ true → agree h Plus k ≡ true → agree m Plus n ≡ true →
    not (conflict_by a b c d h k m n) ≡ true → misses_by a b c d us vs ut vt ≡ true
clear_signs a b c d us vs ut vt h k m n h1 h2 h3 h4 h5 h6 h7 h8 h9 h10 h11 =
    let g1 = all4-out (clear_2 a b c d) (all4-out clear_1 clear_computes a b c d) us vs ut vt in
    let g2 = all4-out (clear_3 a b c d us vs ut vt) (imp-out _ _ (imp-out _ _ (imp-out _ _ (imp-out _ _ g1 h1) h2) h3) h4) h k m n in
    imp-out _ _ (imp-out _ _ (imp-out _ _ (imp-out _ _ (imp-out _ _ (imp-out _ _ (imp-out _ _ g2 h5) h6) h7) h8) h9) h10) h11

pub match-by : (a s t : Sign) → (a ≡ Null → s ≡ t) → match_when a s t ≡ true
match-by Null s t h = rw (h refl) (same_sign-refl t)
match-by Plus s t h = refl
match-by Minus s t h = refl

-- t misses the inside of s
pub clear_misses : (s t : Edge) → IsRisingEdge s → IsRisingEdge t → IsClearOf s t → Misses s.from s.to t
clear_misses s t hs ht h =
    let p = s.from in let q = s.to in let u = t.from in let v = t.to in let st = from_to p q in
    let dir = rising-direction p q hs in
    let eu = side-there p q u in let ev = side-there p q v in
    let f1 = frame-agree st (from_to p u) (from_to p v) dir in
    let f2 = rw (eu, ev) at (frame-agree st (from_to q u) (from_to q v) dir) in
    clear_signs (sign (cross st (from_to p u))) (sign (cross st (from_to p v))) (sign (cross (from_to p u) (from_to p v))) (sign (cross (from_to q u) (from_to q v)))
    (sign (dot st (from_to p u))) (sign (dot st (from_to p v))) (sign (dot st (from_to q u))) (sign (dot st (from_to q v)))
    (order p u) (order p v) (order q u) (order q v)
    f1 f2
    (sum-with-plus (dot st st) (dot st (from_to q u)) (dot st (from_to p u)) dir (dot-chain st p q u))
    (sum-with-plus (dot st st) (dot st (from_to q v)) (dot st (from_to p v)) dir (dot-chain st p q v))
    (match-by _ _ _ (λ z. line-order-up p q p u hs z))
    (match-by _ _ _ (λ z. line-order-up p q p v hs z))
    (match-by _ _ _ (λ z. line-order-up p q q u hs (ap sign eu ∙ z)))
    (match-by _ _ _ (λ z. line-order-up p q q v hs (ap sign ev ∙ z)))
    (subst (λ k. agree (order p u) k (order p v) ≡ true) ht (order-sum p u v))
    (subst (λ k. agree (order q u) k (order q v) ≡ true) ht (order-sum q u v))
    (subst (λ c. not (conflict_by (sign (cross st (from_to p u))) (sign (cross st (from_to p v))) c (sign (cross (from_to q u) (from_to q v))) (order p u) (order p v) (order q u) (order q v)) ≡ true) (ap sign (orient-round p u v))
    (subst (λ d. not (conflict_by (sign (cross st (from_to p u))) (sign (cross st (from_to p v))) (orient u v p) d (order p u) (order p v) (order q u) (order q v)) ≡ true) (ap sign (orient-round q u v))
    (ap not (sym (conflicts-by s t) ∙ h))))

-- ---- the ends of s are off t, where they are not t's
abbrev off_here : Sign → Sign → Sign → Sign → Bool
off_here c h k d =
    imp (agree h Plus k) λ _.
    imp (not (is_null h)) λ _.
    imp (not (is_null k)) λ _.
    imp (match_when c d (times h k)) λ _.
    imp (not (is_null c && (is_minus h && is_plus k))) λ _.
    off_by c d

off_at : (p u v : Vector) → order u v ≡ Plus → same_point p u ≡ false → same_point p v ≡ false →
    not (is_null (orient u v p) && (is_minus (order p u) && is_plus (order p v))) ≡ true → IsOff (from_to p u) (from_to p v)
off_at p u v ht hu hv h =
    let c = all4-out off_here refl (orient u v p) (order p u) (order p v) (sign (dot (from_to p u) (from_to p v))) in
    let e = ap sign (orient-round p u v) in
    subst (λ c. off_by c (sign (dot (from_to p u) (from_to p v))) ≡ true) e
    (imp-out _ _ (imp-out _ _ (imp-out _ _ (imp-out _ _ (imp-out _ _ c
    (subst (λ k. agree (order p u) k (order p v) ≡ true) ht (order-sum p u v)))
    (order-self p u hu)) (order-self p v hv))
    (match-by _ _ _ (λ z. line-order p u p v (sym e ∙ z)))) h)

-- neither end of s is strictly inside t
abbrev end_off : Sign → Sign → Sign → Sign → Sign → Sign → Sign → Sign → Bool
end_off a b c d h k m n = imp (not (conflict_by a b c d h k m n)) λ _. both (not (is_null c && (is_minus h && is_plus k))) (not (is_null d && (is_minus m && is_plus n)))

end_off_computes : all4 (λ a b c d. all4 (end_off a b c d)) ≡ true
end_off_computes = refl

ends_off : (s t : Edge) → IsClearOf s t →
    both (not (is_null (orient t.from t.to s.from) && (is_minus (order s.from t.from) && is_plus (order s.from t.to)))) (not (is_null (orient t.from t.to s.to) && (is_minus (order s.to t.from) && is_plus (order s.to t.to)))) ≡ true
ends_off s t h =
    let p = s.from in let q = s.to in let u = t.from in let v = t.to in
    let c = all4-out (end_off (orient p q u) (orient p q v) (orient u v p) (orient u v q)) (all4-out (λ a b c d. all4 (end_off a b c d)) end_off_computes (orient p q u) (orient p q v) (orient u v p) (orient u v q)) (order p u) (order p v) (order q u) (order q v) in
    imp-out _ _ c (ap not (sym (conflicts-by s t) ∙ h))

pub clear_off_from : (s t : Edge) → IsRisingEdge t → IsClearOf s t → same_point s.from t.from ≡ false → same_point s.from t.to ≡ false → IsOff (from_to s.from t.from) (from_to s.from t.to)
clear_off_from s t ht h hu hv = off_at s.from t.from t.to ht hu hv (left-out _ _ (ends_off s t h))

pub clear_off_to : (s t : Edge) → IsRisingEdge t → IsClearOf s t → same_point s.to t.from ≡ false → same_point s.to t.to ≡ false → IsOff (from_to s.to t.from) (from_to s.to t.to)
clear_off_to s t ht h hu hv = off_at s.to t.from t.to ht hu hv (right-out _ _ (ends_off s t h))

-- ---- conflicts go both ways
-- a word of the signs of two segments that is the same for the two in the other order
abbrev swapped : (Sign → Sign → Sign → Sign → Sign → Sign → Sign → Sign → Bool) → Sign → Sign → Sign → Sign → Sign → Sign → Sign → Sign → Bool
swapped f a b c d h k m n = same_bool (f a b c d h k m n) (f c d a b (negated h) (negated m) (negated k) (negated n))

swap_by : (f : Sign → Sign → Sign → Sign → Sign → Sign → Sign → Sign → Bool) → all4 (λ a b c d. all4 (swapped f a b c d)) ≡ true → (s t : Edge) →
    f (orient t.from t.to s.from) (orient t.from t.to s.to) (orient s.from s.to t.from) (orient s.from s.to t.to) (order t.from s.from) (order t.from s.to) (order t.to s.from) (order t.to s.to)
    ≡ f (orient s.from s.to t.from) (orient s.from s.to t.to) (orient t.from t.to s.from) (orient t.from t.to s.to) (order s.from t.from) (order s.from t.to) (order s.to t.from) (order s.to t.to)
swap_by f computes s t =
    let p = s.from in let q = s.to in let u = t.from in let v = t.to in
    let c = all4-out (swapped f (orient p q u) (orient p q v) (orient u v p) (orient u v q)) (all4-out (λ a b c d. all4 (swapped f a b c d)) computes (orient p q u) (orient p q v) (orient u v p) (orient u v q)) (order p u) (order p v) (order q u) (order q v) in
    let e = same_bool-true (f (orient p q u) (orient p q v) (orient u v p) (orient u v q) (order p u) (order p v) (order q u) (order q v)) (f (orient u v p) (orient u v q) (orient p q u) (orient p q v) (negated (order p u)) (negated (order q u)) (negated (order p v)) (negated (order q v))) c in
    rw (order-reversed p u, order-reversed q u, order-reversed p v, order-reversed q v) (sym e)

abbrev overlap_8 : Sign → Sign → Sign → Sign → Sign → Sign → Sign → Sign → Bool
overlap_8 a b c d h k m n = overlap_by a b c d k m

pub overlaps_reversed : (s t : Edge) → overlaps t s ≡ overlaps s t
overlaps_reversed s t = overlaps-by t s ∙ swap_by overlap_8 refl s t ∙ sym (overlaps-by s t)

pub crosses_reversed : (s t : Edge) → crosses t s ≡ crosses s t
crosses_reversed s t = crosses-by t s ∙ swap_by cross_by refl s t ∙ sym (crosses-by s t)

pub conflicts_reversed : (s t : Edge) → conflicts t s ≡ conflicts s t
conflicts_reversed s t = conflicts-by t s ∙ swap_by conflict_by refl s t ∙ sym (conflicts-by s t)

cross-twice-here : (p q : Vector) → orient p q p ≡ Null
cross-twice-here p q = ap sign (cross-here (from_to p q) p)

pub self_conflicts : (s : Edge) → IsRisingEdge s → conflicts s s ≡ true
self_conflicts s h =
    let a = cross-twice-here s.from s.to in let b = ap sign (cross-self (from_to s.from s.to)) in
    rw (a, b, h) refl

apart-by : (s t : Edge) → IsRisingEdge s → IsClearOf s t → (b : Bool) → same_edge s t ≡ b → b ≡ false
apart-by s t r h false e = refl
apart-by s t r h true e = let k = self_conflicts s r in let g = ap (λ w. conflicts s w) (same_edge-true s t e) in absurd (cc (sym k ∙ g ∙ h))

pub clear_differs : (s t : Edge) → IsRisingEdge s → IsClearOf s t → same_edge s t ≡ false
clear_differs s t r h = apart-by s t r h (same_edge s t) refl

pub clear_back : (s t : Edge) → IsClearOf s t → IsClearOf t s
clear_back s t h = conflicts_reversed s t ∙ h

pub self_overlaps : (s : Edge) → IsRisingEdge s → overlaps s s ≡ true
self_overlaps s h =
    let a = cross-twice-here s.from s.to in let b = ap sign (cross-self (from_to s.from s.to)) in
    rw (a, b, h) refl

end-is-off-by : (v : Vector) (s t : Edge) → IsRisingEdge t → IsClearOf s t → (b c : Bool) → same_point v s.from ≡ b → same_point v s.to ≡ c → (b || c) ≡ true → (x y : Bool) → same_point v t.from ≡ x → same_point v t.to ≡ y → (x || y) ≡ false →
    IsOffEdge v t
end-is-off-by v s t r n true c h k o false false hx hy e =
    let q = same_point-true v s.from h in
    subst (λ w. IsOffEdge w t) (sym q) (clear_off_from s t r n (subst (λ w. same_point w t.from ≡ false) q hx) (subst (λ w. same_point w t.to ≡ false) q hy))
end-is-off-by v s t r n false true h k o false false hx hy e =
    let q = same_point-true v s.to k in
    subst (λ w. IsOffEdge w t) (sym q) (clear_off_to s t r n (subst (λ w. same_point w t.from ≡ false) q hx) (subst (λ w. same_point w t.to ≡ false) q hy))
end-is-off-by v s t r n false false h k o x y hx hy e = absurd (cc o)
end-is-off-by v s t r n true c h k o true y hx hy e = absurd (cc e)
end-is-off-by v s t r n true c h k o false true hx hy e = absurd (cc e)
end-is-off-by v s t r n false true h k o true y hx hy e = absurd (cc e)
end-is-off-by v s t r n false true h k o false true hx hy e = absurd (cc e)

-- an end of s that is no end of t is off t
pub clear_end_off : (v : Vector) (s t : Edge) → IsRisingEdge t → IsClearOf s t → ends_at v s ≡ true → ends_at v t ≡ false → IsOffEdge v t
clear_end_off v s t r n h e = end-is-off-by v s t r n (same_point v s.from) (same_point v s.to) refl refl h (same_point v t.from) (same_point v t.to) refl refl e
