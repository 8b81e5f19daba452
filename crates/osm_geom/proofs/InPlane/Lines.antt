-- The order of edges just above a height does not depend on where the height's point is from left to right, and it is the same
-- for two pieces of one line.
use Rattle.std.proofs.Common.{ap, arith, sym, ℤ, ◌*ℤ◌, ◌+ℤ◌, ◌-ℤ◌, ◌∙◌, ◌≡◌}
use Rattle.plane.specs.Edge.{Edge}
use Rattle.plane.specs.Height.{distance_right, order_above}
use Rattle.plane.specs.Scale.{scaled_edge, scaled_point}
use Rattle.plane.specs.Sign.{Null, Plus, sign, then_sign}
use Rattle.plane.specs.Vector.{Vector, cross, from_to}
use Rattle.plane.proofs.SignKit.{lift, same, ◌⊞◌, ◌⊟◌, ◌⊠◌, null-zero, plus-times}
use Rattle.plane.proofs.PlaneKit.{same_vector, vector_of, cross2, from_to2, lift2, cross-scaled, cross-times}
use Rattle.osm_geom.proofs.GeometryKit.{rise_scaled}
use Rattle.osm_geom.specs.InPlane.OneDirection.{HaveOneDirection}
use Rattle.osm_geom.proofs.InPlane.Directions.{along-cross}
use Rattle.lists.proofs.ListsKit.{less_nothing}

abbrev pub step_of : Edge → Vector
step_of t = from_to t.from t.to

-- ---- pieces of one line
cross-step : (p u v : Vector) → cross (from_to p u) (from_to p v) ≡ cross (from_to p u) (from_to u v)
cross-step p u v =
    let p' = lift2 p in let u' = lift2 u in let v' = lift2 v in
    same (cross2 (from_to2 p' u') (from_to2 p' v')) (cross2 (from_to2 p' u') (from_to2 u' v')) (omega arith)

cross-moved : (p u w d : Vector) → cross (from_to p u) d ≡ cross (from_to p w) d -ℤ cross d (from_to w u)
cross-moved p u w d =
    let p' = lift2 p in let u' = lift2 u in let w' = lift2 w in let d' = lift2 d in
    same (cross2 (from_to2 p' u') d') (cross2 (from_to2 p' w') d' ⊟ cross2 d' (from_to2 w' u')) (omega arith)

-- s and t are pieces of one line that run in one direction
pub record AreOneLine (s t : Edge) : Type 0 where
  pub along : HaveOneDirection (step_of s) (step_of t)
  pub on : sign (cross (step_of t) (from_to t.from s.from)) ≡ Null

pub line-distance : (p : Vector) (s t : Edge) → AreOneLine s t → HaveOneDirection (distance_right p s) (distance_right p t)
line-distance p s t l =
    let m = l.along.m in let n = l.along.n in let d = step_of s in let e = step_of t in
    let S = cross (from_to p s.from) (from_to p s.to) in let T = cross (from_to p t.from) (from_to p t.to) in
    let rises : m *ℤ d.y ≡ n *ℤ e.y = ap (λ (v : Vector). v.y) l.along.same in
    let places : m *ℤ S ≡ n *ℤ T =
    ap (λ z. m *ℤ z) (cross-step p s.from s.to)
    ∙ sym (cross-times m (from_to p s.from) d) ∙ ap (cross (from_to p s.from)) l.along.same ∙ cross-times n (from_to p s.from) e
    ∙ ap (λ z. n *ℤ z) (cross-moved p s.from t.from e ∙ less_nothing (cross (from_to p t.from) e) (cross e (from_to t.from s.from)) (null-zero (cross e (from_to t.from s.from)) l.on) ∙ sym (cross-step p t.from t.to)) in
    record { m = m; n = n; m_positive = l.along.m_positive; n_positive = l.along.n_positive; same = same_vector (m *ℤ d.y) (m *ℤ S) (n *ℤ e.y) (n *ℤ T) rises places }

pub line-order : (p : Vector) (e f g h : Edge) → AreOneLine e g → AreOneLine f h → order_above p e f ≡ order_above p g h
line-order p e f g h a b =
    ap (λ s. then_sign s (sign (cross (step_of f) (step_of e)))) (along-cross (distance_right p e) (distance_right p f) (distance_right p g) (distance_right p h) (line-distance p e g a) (line-distance p f h b))
    ∙ ap (λ s. then_sign (sign (cross (distance_right p g) (distance_right p h))) s) (along-cross (step_of f) (step_of e) (step_of h) (step_of g) b.along a.along)

-- ---- another point of the height
moved : (x z y : ℤ) (u v : Vector) → cross (from_to (vector_of z y) u) (from_to (vector_of z y) v) ≡ cross (from_to (vector_of x y) u) (from_to (vector_of x y) v) +ℤ (x -ℤ z) *ℤ (v.y -ℤ u.y)
moved x z y u v =
    let p' = lift2 (vector_of x y) in let q' = lift2 (vector_of z y) in let u' = lift2 u in let v' = lift2 v in
    same (cross2 (from_to2 q' u') (from_to2 q' v')) (cross2 (from_to2 p' u') (from_to2 p' v') ⊞ (lift x ⊟ lift z) ⊠ (v'.y2 ⊟ u'.y2)) (omega arith)

sheared : (a b c d h : ℤ) → a *ℤ (d +ℤ h *ℤ c) -ℤ (b +ℤ h *ℤ a) *ℤ c ≡ a *ℤ d -ℤ b *ℤ c
sheared a b c d h =
    let a' = lift a in let b' = lift b in let c' = lift c in let d' = lift d in let h' = lift h in
    same (a' ⊠ (d' ⊞ h' ⊠ c') ⊟ (b' ⊞ h' ⊠ a') ⊠ c') (a' ⊠ d' ⊟ b' ⊠ c') (omega arith)

pub level-order : (x z y : ℤ) (e f : Edge) → order_above (vector_of z y) e f ≡ order_above (vector_of x y) e f
level-order x z y e f =
    let p = vector_of x y in let a = distance_right p e in let c = distance_right p f in let b = distance_right (vector_of z y) e in
    ap (λ s. then_sign (sign s) (sign (cross (step_of f) (step_of e))))
    (ap (λ w. a.x *ℤ w -ℤ b.y *ℤ c.x) (moved x z y f.from f.to)
    ∙ ap (λ w. a.x *ℤ (c.y +ℤ (x -ℤ z) *ℤ c.x) -ℤ w *ℤ c.x) (moved x z y e.from e.to)
    ∙ sheared a.x a.y c.x c.y (x -ℤ z))

-- ---- the plane multiplied
stretched : (k a b c d : ℤ) → (k *ℤ a) *ℤ (k *ℤ (k *ℤ d)) -ℤ (k *ℤ (k *ℤ b)) *ℤ (k *ℤ c) ≡ k *ℤ (k *ℤ (k *ℤ (a *ℤ d -ℤ b *ℤ c)))
stretched k a b c d =
    let k' = lift k in let a' = lift a in let b' = lift b in let c' = lift c in let d' = lift d in
    same ((k' ⊠ a') ⊠ (k' ⊠ (k' ⊠ d')) ⊟ (k' ⊠ (k' ⊠ b')) ⊠ (k' ⊠ c')) (k' ⊠ (k' ⊠ (k' ⊠ (a' ⊠ d' ⊟ b' ⊠ c')))) (omega arith)

place-times : (k : ℤ) (p u v : Vector) → cross (from_to (scaled_point k p) (scaled_point k u)) (from_to (scaled_point k p) (scaled_point k v)) ≡ k *ℤ (k *ℤ cross (from_to p u) (from_to p v))
place-times k p u v =
    let k' = lift k in let a' = lift p.x in let b' = lift p.y in let c' = lift u.x in let d' = lift u.y in let e' = lift v.x in let f' = lift v.y in
    same ((k' ⊠ c' ⊟ k' ⊠ a') ⊠ (k' ⊠ f' ⊟ k' ⊠ b') ⊟ (k' ⊠ d' ⊟ k' ⊠ b') ⊠ (k' ⊠ e' ⊟ k' ⊠ a')) (k' ⊠ (k' ⊠ ((c' ⊟ a') ⊠ (f' ⊟ b') ⊟ (d' ⊟ b') ⊠ (e' ⊟ a')))) (omega arith)

pub order_above-scaled : (k : ℤ) (p : Vector) (e f : Edge) → sign k ≡ Plus → order_above (scaled_point k p) (scaled_edge k e) (scaled_edge k f) ≡ order_above p e f
order_above-scaled k p e f hk =
    let a = distance_right p e in let c = distance_right p f in
    let A = distance_right (scaled_point k p) (scaled_edge k e) in let C = distance_right (scaled_point k p) (scaled_edge k f) in
    let A-is : A ≡ vector_of (k *ℤ a.x) (k *ℤ (k *ℤ a.y)) = same_vector A.x A.y (k *ℤ a.x) (k *ℤ (k *ℤ a.y)) (rise_scaled k e.from.y e.to.y) (place-times k p e.from e.to) in
    let C-is : C ≡ vector_of (k *ℤ c.x) (k *ℤ (k *ℤ c.y)) = same_vector C.x C.y (k *ℤ c.x) (k *ℤ (k *ℤ c.y)) (rise_scaled k f.from.y f.to.y) (place-times k p f.from f.to) in
    let z = cross a c in
    ap (λ s. then_sign s (sign (cross (step_of (scaled_edge k f)) (step_of (scaled_edge k e)))))
    (ap (λ v. sign (cross v C)) A-is ∙ ap (λ v. sign (cross (vector_of (k *ℤ a.x) (k *ℤ (k *ℤ a.y))) v)) C-is ∙ ap sign (stretched k a.x a.y c.x c.y)
    ∙ plus-times k (k *ℤ (k *ℤ z)) hk ∙ plus-times k (k *ℤ z) hk ∙ plus-times k z hk)
    ∙ ap (λ s. then_sign (sign z) s) (cross-scaled k hk f.from f.to e.from e.to)
