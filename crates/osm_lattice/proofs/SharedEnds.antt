-- Two edges with a common end don't cross.
use Rattle.std.proofs.Common.{◌≡◌, Bool, true, false, not, ◌||◌, refl, sym, ap, ◌∙◌, subst}
use Rattle.plane.specs.Conflict.{crosses}
use Rattle.plane.specs.Edge.{Edge, IsRisingEdge, ends_at}
use Rattle.plane.specs.Order.{order}
use Rattle.plane.specs.Sign.{Sign, Null, Plus, Minus, negated, sign}
use Rattle.plane.specs.Vector.{Vector, from_to, orient, same_point}
use Rattle.lists.proofs.ListsKit.{not-true-out}
use Rattle.plane.proofs.PlaneKit.{cross_by, crosses-by, crosses_reversed, edge_of, order-reversed, order-self-null, same_point-true, cross-here, cross-negated, cross-self, orient-round}
use Rattle.plane.proofs.SignKit.{all2, all2-out, all-out}

reversed : (p q : Vector) → order p q ≡ Plus → order q p ≡ Minus
reversed p q h = order-reversed p q ∙ ap negated h

-- ---- both begin at one point
firsts_signs : (b n : Sign) → cross_by Null b Null (negated b) Null Plus Minus n ≡ false
firsts_signs b n = not-true-out _ (all2-out (λ b n. not (cross_by Null b Null (negated b) Null Plus Minus n)) refl b n)

firsts : (p q v : Vector) → order p q ≡ Plus → order p v ≡ Plus → crosses (edge_of p q) (edge_of p v) ≡ false
firsts p q v hs ht =
    crosses-by (edge_of p q) (edge_of p v)
    ∙ rw (ap sign (cross-here (from_to p q) p), ap sign (cross-here (from_to p v) p), cross-negated (from_to p q) (from_to p v), order-self-null p, ht, reversed p q hs)
    (firsts_signs (orient p q v) (order q v))

-- ---- both end at one point
seconds_signs : (a h : Sign) → cross_by a Null (negated a) Null h Plus Minus Null ≡ false
seconds_signs a h = not-true-out _ (all2-out (λ a h. not (cross_by a Null (negated a) Null h Plus Minus Null)) refl a h)

seconds : (p q u : Vector) → order p q ≡ Plus → order u q ≡ Plus → crosses (edge_of p q) (edge_of u q) ≡ false
seconds p q u hs ht =
    let turned : orient u q p ≡ negated (orient p q u) = ap sign (orient-round p u q) ∙ cross-negated (from_to p q) (from_to p u) in
    crosses-by (edge_of p q) (edge_of u q)
    ∙ rw (turned, ap sign (cross-self (from_to p q)), ap sign (cross-self (from_to u q)), hs, reversed u q ht, order-self-null q)
    (seconds_signs (orient p q u) (order p u))

-- ---- the second ends where the first begins
chain_signs : (a d m : Sign) → cross_by a Null Null d Minus Null m Minus ≡ false
chain_signs a d m = not-true-out _ (all2-out (λ d m. not (cross_by a Null Null d Minus Null m Minus)) (all-out (λ a. all2 (λ d m. not (cross_by a Null Null d Minus Null m Minus))) refl a) d m)

chain : (p q u : Vector) → order p q ≡ Plus → order u p ≡ Plus → crosses (edge_of p q) (edge_of u p) ≡ false
chain p q u hs ht =
    crosses-by (edge_of p q) (edge_of u p)
    ∙ rw (ap sign (cross-here (from_to p q) p), ap sign (cross-self (from_to u p)), reversed u p ht, order-self-null p, reversed p q hs)
    (chain_signs (orient p q u) (orient u p q) (order q u))

-- ---- in all cases
shared_by : (p q u v w : Vector) → order p q ≡ Plus → order u v ≡ Plus → (b c x y : Bool) → same_point w p ≡ b → same_point w q ≡ c → same_point w u ≡ x → same_point w v ≡ y →
    (b || c) ≡ true → (x || y) ≡ true → crosses (edge_of p q) (edge_of u v) ≡ false
shared_by p q u v w hs ht true c true y eb ec ex ey h k =
    let same : p ≡ u = sym (same_point-true w p eb) ∙ same_point-true w u ex in
    subst (λ u. order u v ≡ Plus → crosses (edge_of p q) (edge_of u v) ≡ false) same (λ ht. firsts p q v hs ht) ht
shared_by p q u v w hs ht true c false true eb ec ex ey h k =
    let same : p ≡ v = sym (same_point-true w p eb) ∙ same_point-true w v ey in
    subst (λ v. order u v ≡ Plus → crosses (edge_of p q) (edge_of u v) ≡ false) same (λ ht. chain p q u hs ht) ht
shared_by p q u v w hs ht false true true y eb ec ex ey h k =
    let same : q ≡ u = sym (same_point-true w q ec) ∙ same_point-true w u ex in
    subst (λ u. order u v ≡ Plus → crosses (edge_of p q) (edge_of u v) ≡ false) same (λ ht. crosses_reversed (edge_of q v) (edge_of p q) ∙ chain q v p ht hs) ht
shared_by p q u v w hs ht false true false true eb ec ex ey h k =
    let same : q ≡ v = sym (same_point-true w q ec) ∙ same_point-true w v ey in
    subst (λ v. order u v ≡ Plus → crosses (edge_of p q) (edge_of u v) ≡ false) same (λ ht. seconds p q u hs ht) ht
shared_by p q u v w hs ht true c false false eb ec ex ey h k = absurd (cc k)
shared_by p q u v w hs ht false true false false eb ec ex ey h k = absurd (cc k)
shared_by p q u v w hs ht false false x y eb ec ex ey h k = absurd (cc h)

pub no_crossing_where_shared : (w : Vector) (s t : Edge) → IsRisingEdge s → IsRisingEdge t → ends_at w s ≡ true → ends_at w t ≡ true → crosses s t ≡ false
no_crossing_where_shared w s t hs ht h k =
    shared_by s.from s.to t.from t.to w hs ht (same_point w s.from) (same_point w s.to) (same_point w t.from) (same_point w t.to) refl refl refl refl h k
