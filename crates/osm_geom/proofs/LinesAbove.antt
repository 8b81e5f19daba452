-- The plane's order of edges just above a height: the signs of three edges that rise, and what ties.
use Rattle.std.proofs.Common.{◌≡◌, Bool, true, ◌&&◌, ℤ, ◌+ℤ◌, ◌-ℤ◌, ◌*ℤ◌, refl, sym, ap, ◌∙◌, subst, arith}
use Rattle.plane.specs.Conflict.{is_along}
use Rattle.plane.specs.Edge.{Edge}
use Rattle.plane.specs.Height.{distance_right, order_above}
use Rattle.plane.specs.Scale.{scaled_edge}
use Rattle.plane.specs.Sign.{Sign, Plus, is_null, negated, sign, then_sign}
use Rattle.plane.specs.Vector.{Vector, cross, east, from_to, orient}
use Rattle.plane.proofs.SignKit.{lift, same, ◌⊞◌, ◌⊟◌, ◌⊠◌, agree, agree-sum, all, all-out, all2, all2-out, all4, all4-out, imp, imp-out, same_bool, same_bool-true, sign-*, sum-zero-left, times, times-plus, agree-back, negated-then}
use Rattle.plane.proofs.PlaneKit.{cross-chain, cross-from-here, cross-negated, dot-east, orient-round, plucker-agree, plucker-dot-agree, side-moves, cross-east, cross-scaled}

abbrev pub IsTall : Edge → Type 0
IsTall t = sign (t.to.y -ℤ t.from.y) ≡ Plus

abbrev step_of : Edge → Vector
step_of t = from_to t.from t.to

-- ---- three edges
abbrev then_sums : Sign → Sign → Sign → Sign → Bool
then_sums k l k' l' = all2 λ m m'. imp (agree k l m) λ _. imp (agree k' l' m') λ _. agree (then_sign k k') (then_sign l l') (then_sign m m')

pub order_above-sum : (p : Vector) (a b c : Edge) → IsTall a → IsTall b → IsTall c → agree (order_above p a b) (order_above p b c) (order_above p a c) ≡ true
order_above-sum p a b c ta tb tc =
    let A = distance_right p a in let B = distance_right p b in let C = distance_right p c in
    let E = step_of a in let F = step_of b in let G = step_of c in
    let x = rw (dot-east A, dot-east B, dot-east C, ta, tb, tc, times-plus (sign (cross B C)), times-plus (sign (cross A B)), times-plus (sign (cross A C))) at (plucker-dot-agree east A B C) in
    let y = rw (cross-east G, cross-east F, cross-east E, ta, tb, tc, times-plus (sign (cross F E)), times-plus (sign (cross G F)), times-plus (sign (cross G E))) at (plucker-agree east G F E) in
    let k = all2-out (λ m m'. imp (agree (sign (cross A B)) (sign (cross B C)) m) λ _. imp (agree (sign (cross F E)) (sign (cross G F)) m') λ _. agree (order_above p a b) (order_above p b c) (then_sign m m'))
    (all4-out then_sums refl (sign (cross A B)) (sign (cross B C)) (sign (cross F E)) (sign (cross G F))) (sign (cross A C)) (sign (cross G E)) in
    imp-out _ _ (imp-out _ _ k (agree-back _ _ _ x)) y

pub order_above-reversed : (p : Vector) (a b : Edge) → order_above p b a ≡ negated (order_above p a b)
order_above-reversed p a b =
    rw (cross-negated (distance_right p a) (distance_right p b), cross-negated (step_of b) (step_of a))
    (negated-then (sign (cross (distance_right p a) (distance_right p b))) (sign (cross (step_of b) (step_of a))))

-- ---- two edges: how far right of e the edge f is, by how far its lower end is off the line of e
split_by : (a b c d x y o : ℤ) → (b *ℤ (x *ℤ d -ℤ y *ℤ c) -ℤ (o +ℤ (x *ℤ b -ℤ y *ℤ a)) *ℤ d) +ℤ o *ℤ d ≡ y *ℤ (a *ℤ d -ℤ b *ℤ c)
split_by a b c d x y o =
    let a' = lift a in let b' = lift b in let c' = lift c in let d' = lift d in let x' = lift x in let y' = lift y in let o' = lift o in
    same ((b' ⊠ (x' ⊠ d' ⊟ y' ⊠ c') ⊟ (o' ⊞ (x' ⊠ b' ⊟ y' ⊠ a')) ⊠ d') ⊞ o' ⊠ d') (y' ⊠ (a' ⊠ d' ⊟ b' ⊠ c')) (omega arith)

distance_split : (p : Vector) (e f : Edge) →
    cross (distance_right p e) (distance_right p f) +ℤ cross (step_of e) (from_to e.from f.from) *ℤ (f.to.y -ℤ f.from.y) ≡ (f.from.y -ℤ p.y) *ℤ cross (step_of e) (step_of f)
distance_split p e f =
    let E = step_of e in let F = step_of f in let v = from_to p f.from in
    let off = cross E (from_to e.from f.from) in
    let of_e : off +ℤ cross v E ≡ cross (from_to p e.from) (from_to p e.to) = ap (λ z. z +ℤ cross v E) (orient-round f.from e.from e.to) ∙ side-moves p f.from e.from e.to in
    let of_f : cross v F ≡ cross (from_to p f.from) (from_to p f.to) = sum-zero-left (cross (from_to f.from f.from) (from_to f.from f.to)) (cross v F) (cross (from_to p f.from) (from_to p f.to)) (cross-from-here f.from (from_to f.from f.to)) (side-moves p f.from f.from f.to) in
    ap (λ z. (E.y *ℤ z -ℤ cross (from_to p e.from) (from_to p e.to) *ℤ F.y) +ℤ off *ℤ F.y) (sym of_f)
    ∙ ap (λ z. (E.y *ℤ cross v F -ℤ z *ℤ F.y) +ℤ off *ℤ F.y) (sym of_e)
    ∙ split_by E.x E.y F.x F.y v.x v.y off

abbrev lines : Sign → Sign → Sign → Sign → Sign → Bool
lines k m o o' h =
    imp (agree k (times o Plus) (times h m)) λ _.
    imp (agree o m o') λ _.
    same_bool (is_null (then_sign k (negated m))) (is_null o && is_null o')

lines_compute : all4 (λ k m o o'. all (lines k m o o')) ≡ true
lines_compute = refl

lines_by : (k m o o' h : Sign) → agree k (times o Plus) (times h m) ≡ true → agree o m o' ≡ true → is_null (then_sign k (negated m)) ≡ (is_null o && is_null o')
lines_by k m o o' h x y = same_bool-true _ _ (imp-out _ _ (imp-out _ _ (all-out (lines k m o o') (all4-out (λ k m o o'. all (lines k m o o')) lines_compute k m o o') h) x) y)

-- the two tie exactly where both ends of f lie on the line of e
pub tie_along : (p : Vector) (e f : Edge) → IsTall f → is_null (order_above p e f) ≡ is_along e f
tie_along p e f tall =
    let E = step_of e in let F = step_of f in
    let k = cross (distance_right p e) (distance_right p f) in let m = cross E F in
    let o = cross E (from_to e.from f.from) in let o' = cross E (from_to e.from f.to) in let h = f.from.y -ℤ p.y in
    let sums = agree-sum k (o *ℤ (f.to.y -ℤ f.from.y)) (h *ℤ m) (distance_split p e f) in
    let x : agree (sign k) (times (sign o) Plus) (times (sign h) (sign m)) ≡ true =
    subst (λ s. agree (sign k) (times (sign o) s) (times (sign h) (sign m)) ≡ true) tall
    (subst (λ s. agree (sign k) s (times (sign h) (sign m)) ≡ true) (sign-* o (f.to.y -ℤ f.from.y))
    (subst (λ s. agree (sign k) (sign (o *ℤ (f.to.y -ℤ f.from.y))) s ≡ true) (sign-* h m) sums)) in
    let y = agree-sum o m o' (cross-chain E e.from f.from f.to) in
    ap (λ s. is_null (then_sign (sign k) s)) (cross-negated E F) ∙ lines_by (sign k) (sign m) (sign o) (sign o') (sign h) x y

pub along-scaled : (q : ℤ) → sign q ≡ Plus → (e f : Edge) → is_along (scaled_edge q e) (scaled_edge q f) ≡ is_along e f
along-scaled q h e f =
    ap (λ s. is_null s && is_null (orient (scaled_edge q e).from (scaled_edge q e).to (scaled_edge q f).to)) (cross-scaled q h e.from e.to e.from f.from)
    ∙ ap (λ s. is_null (orient e.from e.to f.from) && is_null s) (cross-scaled q h e.from e.to e.from f.to)
