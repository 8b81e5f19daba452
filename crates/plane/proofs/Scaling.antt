-- No sign, crossing or sector changes where points and edges are multiplied by a positive number.
use Rattle.std.proofs.Common.{Bool, ap, arith, false, not, refl, subst, sym, true, ◌&&◌, ◌||◌, ◌∙◌, ◌≡◌}
use Rattle.std.specs.Ordering.{int_eq}
use borrow.Author.Differences.{ints}
use lib.IntN.{pos, ℤ, ◌*ℤ◌, ◌+ℤ◌, ◌-ℤ◌}
use Rattle.plane.specs.Conflict.{conflicts, crosses, overlaps}
use Rattle.plane.specs.Edge.{Edge, is_horizontal, same_edge}
use Rattle.plane.specs.Height.{is_in_span, is_left_of, starts_left_of}
use Rattle.plane.specs.Order.{order}
use Rattle.plane.specs.RayCrossing.{down_crossing, up_crossing}
use Rattle.plane.specs.Scale.{scaled_edge, scaled_point}
use Rattle.plane.specs.Sector.{in_sector}
use Rattle.plane.specs.Sign.{Plus, is_minus, is_null, is_plus, sign, then_sign}
use Rattle.plane.specs.Vector.{Vector, cross, dot, from_to, orient, same_point}
use Rattle.plane.proofs.Identities.{lift, same, ◌⊞◌, ◌⊟◌, ◌⊠◌}
use Rattle.lists.proofs.ListsKit.{int_eq-same, int_eq-true}
use Rattle.plane.proofs.Points.{same_point-refl, same_point-true, same_vector}
use Rattle.plane.proofs.Products.{cross2, dot2, lift2}
use Rattle.plane.proofs.Signs.{null-zero, plus-times}

-- ---- multiplied twice
pub times-twice : (q k z : ℤ) → q *ℤ (k *ℤ z) ≡ (q *ℤ k) *ℤ z
times-twice q k z = let q' = lift q in let k' = lift k in let z' = lift z in same (q' ⊠ (k' ⊠ z')) ((q' ⊠ k') ⊠ z') (omega arith)

pub times-turned : (q k z : ℤ) → q *ℤ (k *ℤ z) ≡ k *ℤ (q *ℤ z)
times-turned q k z = let q' = lift q in let k' = lift k in let z' = lift z in same (q' ⊠ (k' ⊠ z')) (k' ⊠ (q' ⊠ z')) (omega arith)

pub point-twice : (q k : ℤ) (p : Vector) → scaled_point q (scaled_point k p) ≡ scaled_point (q *ℤ k) p
point-twice q k p = same_vector (q *ℤ (k *ℤ p.x)) (q *ℤ (k *ℤ p.y)) ((q *ℤ k) *ℤ p.x) ((q *ℤ k) *ℤ p.y) (times-twice q k p.x) (times-twice q k p.y)

pub point-once : (p : Vector) → scaled_point (pos 1) p ≡ p
point-once p = same_vector (pos 1 *ℤ p.x) (pos 1 *ℤ p.y) p.x p.y (omega (arith, ints)) (omega (arith, ints))

pub point-turned : (q k : ℤ) (p : Vector) → scaled_point q (scaled_point k p) ≡ scaled_point k (scaled_point q p)
point-turned q k p = same_vector (q *ℤ (k *ℤ p.x)) (q *ℤ (k *ℤ p.y)) (k *ℤ (q *ℤ p.x)) (k *ℤ (q *ℤ p.y)) (times-turned q k p.x) (times-turned q k p.y)

-- ---- products with a vector multiplied
pub cross-times : (k : ℤ) (d a : Vector) → cross d (scaled_point k a) ≡ k *ℤ cross d a
cross-times k d a =
    let k' = lift k in let e = lift2 d in let u = lift2 a in
    same (e.x2 ⊠ (k' ⊠ u.y2) ⊟ e.y2 ⊠ (k' ⊠ u.x2)) (k' ⊠ cross2 e u) (omega arith)

pub dot-times : (k : ℤ) (d a : Vector) → dot d (scaled_point k a) ≡ k *ℤ dot d a
dot-times k d a =
    let k' = lift k in let e = lift2 d in let u = lift2 a in
    same (e.x2 ⊠ (k' ⊠ u.x2) ⊞ e.y2 ⊠ (k' ⊠ u.y2)) (k' ⊠ dot2 e u) (omega arith)

module _ (k : ℤ) (hk : sign k ≡ Plus) where
  minus-scaled : (a b : ℤ) → k *ℤ a -ℤ k *ℤ b ≡ k *ℤ (a -ℤ b)
  minus-scaled a b = let k' = lift k in let a' = lift a in let b' = lift b in same (k' ⊠ a' ⊟ k' ⊠ b') (k' ⊠ (a' ⊟ b')) (omega arith)

  pub minus-sign : (a b : ℤ) → sign (k *ℤ a -ℤ k *ℤ b) ≡ sign (a -ℤ b)
  minus-sign a b = ap sign (minus-scaled a b) ∙ plus-times k (a -ℤ b) hk

  cross-by : (a b c d : ℤ) → (k *ℤ a) *ℤ (k *ℤ d) -ℤ (k *ℤ b) *ℤ (k *ℤ c) ≡ k *ℤ (k *ℤ (a *ℤ d -ℤ b *ℤ c))
  cross-by a b c d =
      let k' = lift k in let a' = lift a in let b' = lift b in let c' = lift c in let d' = lift d in
      same ((k' ⊠ a') ⊠ (k' ⊠ d') ⊟ (k' ⊠ b') ⊠ (k' ⊠ c')) (k' ⊠ (k' ⊠ (a' ⊠ d' ⊟ b' ⊠ c'))) (omega arith)

  -- the side of a point
  pub cross-scaled : (p q r s : Vector) → sign (cross (from_to (scaled_point k p) (scaled_point k q)) (from_to (scaled_point k r) (scaled_point k s))) ≡ sign (cross (from_to p q) (from_to r s))
  cross-scaled p q r s =
      ap (λ (z : ℤ). sign (z *ℤ (k *ℤ s.y -ℤ k *ℤ r.y) -ℤ (k *ℤ q.y -ℤ k *ℤ p.y) *ℤ (k *ℤ s.x -ℤ k *ℤ r.x))) (minus-scaled q.x p.x)
      ∙ ap (λ (z : ℤ). sign ((k *ℤ (q.x -ℤ p.x)) *ℤ z -ℤ (k *ℤ q.y -ℤ k *ℤ p.y) *ℤ (k *ℤ s.x -ℤ k *ℤ r.x))) (minus-scaled s.y r.y)
      ∙ ap (λ (z : ℤ). sign ((k *ℤ (q.x -ℤ p.x)) *ℤ (k *ℤ (s.y -ℤ r.y)) -ℤ z *ℤ (k *ℤ s.x -ℤ k *ℤ r.x))) (minus-scaled q.y p.y)
      ∙ ap (λ (z : ℤ). sign ((k *ℤ (q.x -ℤ p.x)) *ℤ (k *ℤ (s.y -ℤ r.y)) -ℤ (k *ℤ (q.y -ℤ p.y)) *ℤ z)) (minus-scaled s.x r.x)
      ∙ ap sign (cross-by (q.x -ℤ p.x) (q.y -ℤ p.y) (s.x -ℤ r.x) (s.y -ℤ r.y))
      ∙ plus-times k (k *ℤ cross (from_to p q) (from_to r s)) hk ∙ plus-times k (cross (from_to p q) (from_to r s)) hk

  pub order-scaled : (p q : Vector) → order (scaled_point k p) (scaled_point k q) ≡ order p q
  order-scaled p q = ap (λ s. then_sign s (sign (k *ℤ q.x -ℤ k *ℤ p.x))) (minus-sign q.y p.y) ∙ ap (λ s. then_sign (sign (q.y -ℤ p.y)) s) (minus-sign q.x p.x)

  int_eq-of : (a b : ℤ) → (x y : Bool) → int_eq (k *ℤ a) (k *ℤ b) ≡ x → int_eq a b ≡ y → x ≡ y
  int_eq-of a b true true h g = refl
  int_eq-of a b false false h g = refl
  int_eq-of a b true false h g =
      let e = int_eq-true (k *ℤ a) (k *ℤ b) h in
      let z = sym (minus-sign a b) ∙ ap sign (let m : k *ℤ a -ℤ k *ℤ b ≡ pos 0 = omega (arith, ints) in m) in
      let n = null-zero (a -ℤ b) z in let q : a ≡ b = omega (arith, ints) in
      let r = int_eq-same a b q in absurd (cc (sym r ∙ g))
  int_eq-of a b false true h g = let q = ap (λ z. k *ℤ z) (int_eq-true a b g) in let r = int_eq-same (k *ℤ a) (k *ℤ b) q in absurd (cc (sym r ∙ h))

  int_eq-scaled : (a b : ℤ) → int_eq (k *ℤ a) (k *ℤ b) ≡ int_eq a b
  int_eq-scaled a b = int_eq-of a b (int_eq (k *ℤ a) (k *ℤ b)) (int_eq a b) refl refl

  pub point-scaled : (p q : Vector) → same_point (scaled_point k p) (scaled_point k q) ≡ same_point p q
  point-scaled p q = ap (λ b. b && int_eq (k *ℤ p.y) (k *ℤ q.y)) (int_eq-scaled p.x q.x) ∙ ap (λ b. int_eq p.x q.x && b) (int_eq-scaled p.y q.y)

  pub conflicts-scaled : (s t : Edge) → conflicts (scaled_edge k s) (scaled_edge k t) ≡ conflicts s t
  conflicts-scaled s t =
      let p = s.from in let q = s.to in let u = t.from in let v = t.to in
      rw (cross-scaled p q p u, cross-scaled p q p v, cross-scaled u v u p, cross-scaled u v u q, order-scaled p u, order-scaled p v, order-scaled u q, order-scaled v q, order-scaled u p, order-scaled q v)

  pub span-scaled : (p : Vector) (t : Edge) → is_in_span (scaled_point k p) (scaled_edge k t) ≡ is_in_span p t
  span-scaled p t = ap (λ s. not (is_plus s) && is_plus (sign (k *ℤ t.to.y -ℤ k *ℤ p.y))) (minus-sign t.from.y p.y) ∙ ap (λ s. not (is_plus (sign (t.from.y -ℤ p.y))) && is_plus s) (minus-sign t.to.y p.y)

  pub left-scaled : (p : Vector) (t : Edge) → is_left_of (scaled_point k p) (scaled_edge k t) ≡ is_left_of p t
  left-scaled p t = ap (λ b. b && is_plus (orient (scaled_point k t.from) (scaled_point k t.to) (scaled_point k p))) (span-scaled p t) ∙ ap (λ s. is_in_span p t && is_plus s) (cross-scaled t.from t.to t.from p)

  pub level-scaled : (s : Edge) → is_horizontal (scaled_edge k s) ≡ is_horizontal s
  level-scaled s = ap is_null (minus-sign s.to.y s.from.y)

  pub right-scaled : (s t : Edge) → starts_left_of (scaled_edge k s) (scaled_edge k t) ≡ starts_left_of s t
  right-scaled s t =
      let a = s.from in
      ap (λ b. b && (is_plus (orient (scaled_point k t.from) (scaled_point k t.to) (scaled_point k a)) || (same_point (scaled_point k a) (scaled_point k t.from) && is_minus (orient (scaled_point k a) (scaled_point k s.to) (scaled_point k t.to))))) (span-scaled a t)
      ∙ ap (λ o. is_in_span a t && (is_plus o || (same_point (scaled_point k a) (scaled_point k t.from) && is_minus (orient (scaled_point k a) (scaled_point k s.to) (scaled_point k t.to))))) (cross-scaled t.from t.to t.from a)
      ∙ ap (λ b. is_in_span a t && (is_plus (orient t.from t.to a) || (b && is_minus (orient (scaled_point k a) (scaled_point k s.to) (scaled_point k t.to))))) (point-scaled a t.from)
      ∙ ap (λ o. is_in_span a t && (is_plus (orient t.from t.to a) || (same_point a t.from && is_minus o))) (cross-scaled a s.to a t.to)

  pub edge-scaled : (s t : Edge) → same_edge (scaled_edge k s) (scaled_edge k t) ≡ same_edge s t
  edge-scaled s t = ap (λ b. b && same_point (scaled_point k s.to) (scaled_point k t.to)) (point-scaled s.from t.from) ∙ ap (λ b. same_point s.from t.from && b) (point-scaled s.to t.to)

module _ (k : ℤ) (hk : sign k ≡ Plus) where
  pub orient-scaled : (p q r : Vector) → orient (scaled_point k p) (scaled_point k q) (scaled_point k r) ≡ orient p q r
  orient-scaled p q r = cross-scaled k hk p q p r

  pub overlaps-scaled : (s t : Edge) → overlaps (scaled_edge k s) (scaled_edge k t) ≡ overlaps s t
  overlaps-scaled s t =
      let p = s.from in let q = s.to in let u = t.from in let v = t.to in
      rw (cross-scaled k hk p q p u, cross-scaled k hk p q p v, cross-scaled k hk u v u p, cross-scaled k hk u v u q, order-scaled k hk p v, order-scaled k hk u q)

  pub crosses-scaled : (s t : Edge) → crosses (scaled_edge k s) (scaled_edge k t) ≡ crosses s t
  crosses-scaled s t =
      let p = s.from in let q = s.to in let u = t.from in let v = t.to in
      rw (cross-scaled k hk p q p u, cross-scaled k hk p q p v, cross-scaled k hk u v u p, cross-scaled k hk u v u q, order-scaled k hk p u, order-scaled k hk p v, order-scaled k hk q v, order-scaled k hk u p, order-scaled k hk u q, order-scaled k hk v q)

  right-factor : (a b c d : ℤ) → a *ℤ (k *ℤ d) -ℤ b *ℤ (k *ℤ c) ≡ k *ℤ (a *ℤ d -ℤ b *ℤ c)
  right-factor a b c d =
      let k' = lift k in let a' = lift a in let b' = lift b in let c' = lift c in let d' = lift d in
      same (a' ⊠ (k' ⊠ d') ⊟ b' ⊠ (k' ⊠ c')) (k' ⊠ (a' ⊠ d' ⊟ b' ⊠ c')) (omega arith)

  cross-one : (d a : Vector) → sign (cross d (scaled_point k a)) ≡ sign (cross d a)
  cross-one d a = ap sign (right-factor d.x d.y a.x a.y) ∙ plus-times k (cross d a) hk

  cross-both : (a b : Vector) → sign (cross (scaled_point k a) (scaled_point k b)) ≡ sign (cross a b)
  cross-both a b = ap sign (cross-by k hk a.x a.y b.x b.y) ∙ plus-times k (k *ℤ cross a b) hk ∙ plus-times k (cross a b) hk

  dot-by : (a b c d : ℤ) → (k *ℤ a) *ℤ (k *ℤ c) +ℤ (k *ℤ b) *ℤ (k *ℤ d) ≡ k *ℤ (k *ℤ (a *ℤ c +ℤ b *ℤ d))
  dot-by a b c d =
      let k' = lift k in let a' = lift a in let b' = lift b in let c' = lift c in let d' = lift d in
      same ((k' ⊠ a') ⊠ (k' ⊠ c') ⊞ (k' ⊠ b') ⊠ (k' ⊠ d')) (k' ⊠ (k' ⊠ (a' ⊠ c' ⊞ b' ⊠ d'))) (omega arith)

  pub dot-both : (a b : Vector) → sign (dot (scaled_point k a) (scaled_point k b)) ≡ sign (dot a b)
  dot-both a b = ap sign (dot-by a.x a.y b.x b.y) ∙ plus-times k (k *ℤ dot a b) hk ∙ plus-times k (dot a b) hk

  pub crossing-scaled : (d a b : Vector) →
      (up_crossing d (scaled_point k a) (scaled_point k b) ≡ up_crossing d a b) × (down_crossing d (scaled_point k a) (scaled_point k b) ≡ down_crossing d a b)
  crossing-scaled d a b = (rw (cross-one d a, cross-one d b, cross-both a b), rw (cross-one d a, cross-one d b, cross-both a b))

  pub sector-scaled : (d e a : Vector) → in_sector (scaled_point k d) (scaled_point k e) (scaled_point k a) ≡ in_sector d e a
  sector-scaled d e a = rw (dot-both d a, cross-both d a, dot-both d e, cross-both d e, cross-both e a)

  pub from_to-scaled : (p q : Vector) → from_to (scaled_point k p) (scaled_point k q) ≡ scaled_point k (from_to p q)
  from_to-scaled p q = same_vector (k *ℤ q.x -ℤ k *ℤ p.x) (k *ℤ q.y -ℤ k *ℤ p.y) (k *ℤ (q.x -ℤ p.x)) (k *ℤ (q.y -ℤ p.y)) (minus-scaled k hk q.x p.x) (minus-scaled k hk q.y p.y)

  -- a sector as a multiplied point sees it
  pub sector-seen-scaled : (v a b w : Vector) →
      in_sector (from_to (scaled_point k v) (scaled_point k a)) (from_to (scaled_point k v) (scaled_point k b)) (from_to (scaled_point k v) (scaled_point k w)) ≡ in_sector (from_to v a) (from_to v b) (from_to v w)
  sector-seen-scaled v a b w =
      ap (λ d. in_sector d (from_to (scaled_point k v) (scaled_point k b)) (from_to (scaled_point k v) (scaled_point k w))) (from_to-scaled v a)
      ∙ ap (λ e. in_sector (scaled_point k (from_to v a)) e (from_to (scaled_point k v) (scaled_point k w))) (from_to-scaled v b)
      ∙ ap (in_sector (scaled_point k (from_to v a)) (scaled_point k (from_to v b))) (from_to-scaled v w)
      ∙ sector-scaled (from_to v a) (from_to v b) (from_to v w)

  pub point-back : (p q : Vector) → scaled_point k p ≡ scaled_point k q → p ≡ q
  point-back p q e = same_point-true p q (sym (point-scaled k hk p q) ∙ subst (λ w. same_point (scaled_point k p) w ≡ true) e (same_point-refl (scaled_point k p)))
