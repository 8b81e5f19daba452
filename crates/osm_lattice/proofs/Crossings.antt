-- Where two segments cross, the ends of each are not on one side of the line of the other.
use Rattle.std.proofs.Common.{◌≡◌, Bool, true, not, refl, sym, ap, ◌∙◌, subst}
use Rattle.plane.specs.Conflict.{crosses}
use Rattle.plane.specs.Edge.{Edge, IsRisingEdge}
use Rattle.plane.specs.Order.{order}
use Rattle.plane.specs.Sign.{Sign, Null, Plus, is_null, sign}
use Rattle.plane.specs.Vector.{cross, dot, from_to, orient}
use Rattle.plane.proofs.PlaneKit.{cross_by, crosses-by, crosses_reversed, match-by, line-order-up, order-sum, rising-direction, dot-chain, frame-agree, orient-round, side-there}
use Rattle.plane.proofs.SignKit.{agree, sum-with-plus, all, all-out, all4, all4-out, imp, imp-out, same_sign, times}

-- ---- the signs: the sides of t's ends (a, b) and of s's ends (c, d); where t's two ends are along s, seen from its lower end (us, vs) and from its
-- upper end (ut, vt); and where they are in the order of points, seen from the lower end (h, k) and from the upper end (m, n)
abbrev match_when : Sign → Sign → Sign → Bool
match_when Null s t = same_sign s t
match_when a s t = true

-- where both ends of s lie on the line of t, an end of t lies on the line of s
abbrev line_when : Sign → Sign → Sign → Bool
line_when Null Null a = is_null a
line_when c d a = true

abbrev line_holds : Sign → Sign → Sign → Sign → Sign → Bool
line_holds a c d x y = imp (agree (times Plus a) (times x c) (times y d)) λ _. line_when c d a

line_computes : all (λ a. all4 (line_holds a)) ≡ true
line_computes = refl

line-by : (a c d x y : Sign) → agree (times Plus a) (times x c) (times y d) ≡ true → line_when c d a ≡ true
line-by a c d x y h = imp-out _ _ (all4-out (line_holds a) (all-out (λ a. all4 (line_holds a)) line_computes a) c d x y) h

abbrev sides_3 : Sign → Sign → Sign → Sign → Sign → Sign → Sign → Sign → Sign → Sign → Sign → Sign → Bool
sides_3 a b c d us vs ut vt h k m n =
    imp (match_when a us h) λ _.
    imp (match_when b vs k) λ _.
    imp (match_when a ut m) λ _.
    imp (match_when b vt n) λ _.
    imp (agree h Plus k) λ _.
    imp (agree m Plus n) λ _.
    imp (cross_by a b c d h k m n) λ _.
    not (same_sign c d)

abbrev sides_2 : Sign → Sign → Sign → Sign → Sign → Sign → Sign → Sign → Bool
sides_2 a b c d us vs ut vt =
    imp (agree (times Plus c) (times vs a) (times us b)) λ _.
    imp (agree (times Plus d) (times vt a) (times ut b)) λ _.
    imp (agree Plus ut us) λ _.
    imp (agree Plus vt vs) λ _.
    all4 (sides_3 a b c d us vs ut vt)

abbrev sides_1 : Sign → Sign → Sign → Sign → Bool
sides_1 a b c d =
    imp (line_when c d a) λ _.
    imp (line_when c d b) λ _.
    all4 (sides_2 a b c d)

sides_compute : all4 sides_1 ≡ true
sides_compute = refl

sides_signs : (a b c d us vs ut vt h k m n : Sign) → line_when c d a ≡ true → line_when c d b ≡ true →
    agree (times Plus c) (times vs a) (times us b) ≡ true → agree (times Plus d) (times vt a) (times ut b) ≡ true → agree Plus ut us ≡ true → agree Plus vt vs ≡ true →
    match_when a us h ≡ true → match_when b vs k ≡ true → match_when a ut m ≡ true → match_when b vt n ≡ true → agree h Plus k ≡ true → agree m Plus n ≡ true →
    cross_by a b c d h k m n ≡ true → not (same_sign c d) ≡ true
sides_signs a b c d us vs ut vt h k m n l1 l2 h1 h2 h3 h4 h5 h6 h7 h8 h9 h10 h11 =
    let g1 = all4-out (sides_2 a b c d) (imp-out _ _ (imp-out _ _ (all4-out sides_1 sides_compute a b c d) l1) l2) us vs ut vt in
    let g2 = all4-out (sides_3 a b c d us vs ut vt) (imp-out _ _ (imp-out _ _ (imp-out _ _ (imp-out _ _ g1 h1) h2) h3) h4) h k m n in
    imp-out _ _ (imp-out _ _ (imp-out _ _ (imp-out _ _ (imp-out _ _ (imp-out _ _ (imp-out _ _ g2 h5) h6) h7) h8) h9) h10) h11

-- the ends of s are not on one side of t
pub sides_differ : (s t : Edge) → IsRisingEdge s → IsRisingEdge t → crosses s t ≡ true → not (same_sign (orient t.from t.to s.from) (orient t.from t.to s.to)) ≡ true
sides_differ s t hs ht h =
    let p = s.from in let q = s.to in let u = t.from in let v = t.to in let st = from_to p q in
    let dir = rising-direction p q hs in
    let eu = side-there p q u in let ev = side-there p q v in
    let f1 = frame-agree st (from_to p u) (from_to p v) dir in
    let f2 = rw (eu, ev) at (frame-agree st (from_to q u) (from_to q v) dir) in
    let vt = from_to u v in
    let dir_t = rising-direction u v ht in
    let g1 = frame-agree vt (from_to u p) (from_to u q) dir_t in
    let g2 = rw (side-there u v p, side-there u v q) at (frame-agree vt (from_to v p) (from_to v q) dir_t) in
    let c = ap sign (orient-round p u v) in let d = ap sign (orient-round q u v) in
    sides_signs (sign (cross st (from_to p u))) (sign (cross st (from_to p v))) (orient u v p) (orient u v q)
    (sign (dot st (from_to p u))) (sign (dot st (from_to p v))) (sign (dot st (from_to q u))) (sign (dot st (from_to q v)))
    (order p u) (order p v) (order q u) (order q v)
    (line-by (orient p q u) (orient u v p) (orient u v q) _ _ (subst (λ a. agree (times Plus a) (times (sign (dot vt (from_to u q))) (orient u v p)) (times (sign (dot vt (from_to u p))) (orient u v q)) ≡ true) (sym (ap sign (orient-round u p q))) g1))
    (line-by (orient p q v) (orient u v p) (orient u v q) _ _ (subst (λ b. agree (times Plus b) (times (sign (dot vt (from_to v q))) (orient u v p)) (times (sign (dot vt (from_to v p))) (orient u v q)) ≡ true) (sym (ap sign (orient-round v p q))) g2))
    (subst (λ c. agree (times Plus c) (times (sign (dot st (from_to p v))) (sign (cross st (from_to p u)))) (times (sign (dot st (from_to p u))) (sign (cross st (from_to p v)))) ≡ true) (sym c) f1)
    (subst (λ d. agree (times Plus d) (times (sign (dot st (from_to q v))) (sign (cross st (from_to p u)))) (times (sign (dot st (from_to q u))) (sign (cross st (from_to p v)))) ≡ true) (sym d) f2)
    (sum-with-plus (dot st st) (dot st (from_to q u)) (dot st (from_to p u)) dir (dot-chain st p q u))
    (sum-with-plus (dot st st) (dot st (from_to q v)) (dot st (from_to p v)) dir (dot-chain st p q v))
    (match-by _ _ _ (λ z. line-order-up p q p u hs z))
    (match-by _ _ _ (λ z. line-order-up p q p v hs z))
    (match-by _ _ _ (λ z. line-order-up p q q u hs (ap sign eu ∙ z)))
    (match-by _ _ _ (λ z. line-order-up p q q v hs (ap sign ev ∙ z)))
    (subst (λ k. agree (order p u) k (order p v) ≡ true) ht (order-sum p u v))
    (subst (λ k. agree (order q u) k (order q v) ≡ true) ht (order-sum q u v))
    (sym (crosses-by s t) ∙ h)

-- and those of t not on one side of s
pub sides_differ_back : (s t : Edge) → IsRisingEdge s → IsRisingEdge t → crosses s t ≡ true → not (same_sign (orient s.from s.to t.from) (orient s.from s.to t.to)) ≡ true
sides_differ_back s t hs ht h = sides_differ t s ht hs (crosses_reversed s t ∙ h)
