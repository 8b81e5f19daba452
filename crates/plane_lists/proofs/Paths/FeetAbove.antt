-- The place of an edge just above a height is strictly inside the edge.
use Rattle.std.proofs.Common.{ap, arith, pos, true, ℤ, ◌*ℤ◌, ◌+ℤ◌, ◌-ℤ◌, ◌∙◌, ◌≡◌, ◌⊎◌, inl, inr}
use borrow.Author.Differences.{ints}
use Rattle.plane.specs.Edge.{Edge, IsRisingEdge}
use Rattle.plane.specs.FreeSegment.{IsBetween}
use Rattle.plane.specs.Height.{distance_right, is_in_span}
use Rattle.plane.specs.Order.{order}
use Rattle.plane.specs.Scale.{scaled_point}
use Rattle.plane.specs.Sign.{Minus, Null, Plus, negated, sign, then_sign}
use Rattle.plane.specs.Vector.{Vector, cross, from_to}
use Rattle.lists.proofs.ListsKit.{rest_nothing}
use Rattle.plane.proofs.PlaneKit.{cross-chain, cross-self, cross2, from_to-scaled, from_to2, lift2, line-order-up, minus-sign, order-scaled, step_of}
use Rattle.plane.proofs.SignKit.{lift, null-zero, plus-times, same, sign-reversed, ◌⊞◌, ◌⊟◌, ◌⊠◌}
use Rattle.plane_lists.proofs.WindingKit.{low-by}
use Rattle.plane_lists.proofs.Paths.Later.{Later, Leads, later-both, later-leads, later-then, near}
use Rattle.plane_lists.proofs.Paths.Places.{IsPlace, lies}

pub first-times : (k : ℤ) (d w : Vector) → cross (scaled_point k d) w ≡ k *ℤ cross d w
first-times k d w =
    let k' = lift k in let d' = lift2 d in let w' = lift2 w in
    same ((k' ⊠ d'.x2) ⊠ w'.y2 ⊟ (k' ⊠ d'.y2) ⊠ w'.x2) (k' ⊠ cross2 d' w') (omega arith)

near-back : (k : ℤ) (d r u w : Vector) → cross d (from_to (scaled_point k w) (near k r u)) ≡ k *ℤ cross d (from_to w r) +ℤ cross d u
near-back k d r u w =
    let k' = lift k in let d' = lift2 d in let r' = lift2 r in let u' = lift2 u in let w' = lift2 w in
    same (d'.x2 ⊠ (k' ⊠ r'.y2 ⊞ u'.y2 ⊟ k' ⊠ w'.y2) ⊟ d'.y2 ⊠ (k' ⊠ r'.x2 ⊞ u'.x2 ⊟ k' ⊠ w'.x2)) (k' ⊠ cross2 d' (from_to2 w' r') ⊞ cross2 d' u') (omega arith)

no-sum : (k x c : ℤ) → x ≡ pos 0 → c ≡ pos 0 → k *ℤ x +ℤ c ≡ pos 0
no-sum k x c h g = ap (λ z. k *ℤ z +ℤ c) h ∙ ap (λ z. k *ℤ pos 0 +ℤ z) g ∙ same (lift k ⊠ lift (pos 0) ⊞ lift (pos 0)) (lift (pos 0)) (omega arith)

above-by : (k a b c : ℤ) → (k *ℤ a +ℤ b) -ℤ k *ℤ c ≡ k *ℤ (a -ℤ c) -ℤ (pos 0 -ℤ b)
above-by k a b c = let k' = lift k in let a' = lift a in let b' = lift b in let c' = lift c in same ((k' ⊠ a' ⊞ b') ⊟ k' ⊠ c') (k' ⊠ (a' ⊟ c') ⊟ (lift (pos 0) ⊟ b')) (omega arith)

pub below-by : (k a b c : ℤ) → k *ℤ c -ℤ (k *ℤ a +ℤ b) ≡ k *ℤ (c -ℤ a) -ℤ b
below-by k a b c = let k' = lift k in let a' = lift a in let b' = lift b in let c' = lift c in same (k' ⊠ c' ⊟ (k' ⊠ a' ⊞ b')) (k' ⊠ (c' ⊟ a') ⊟ b') (omega arith)

module _ (p : Vector) (f : Edge) (m : ℤ) (hm : sign m ≡ Plus) (Y V : Vector) (i : IsPlace p f m Y V) (r : IsRisingEdge f) (s : is_in_span p f ≡ true) where
  abbrev u : Vector
  u = scaled_point m f.from

  abbrev v : Vector
  v = scaled_point m f.to

  on-own : lies m Y f ≡ pos 0
  on-own = null-zero (lies m Y f) (i.at f ∙ ap sign (cross-self (distance_right p f)))

  own-way : cross (step_of f) V ≡ pos 0
  own-way = null-zero (cross (step_of f) V) (i.way (step_of f) ∙ ap sign (cross-self (step_of f)))

  module _ (k : ℤ) (hk : sign k ≡ Plus) where
    abbrev w : Vector
    w = near k Y V

    line-is : from_to (scaled_point k u) (scaled_point k v) ≡ scaled_point k (scaled_point m (step_of f))
    line-is = from_to-scaled k hk u v ∙ ap (scaled_point k) (from_to-scaled m hm f.from f.to)

    line-null : (a b : Vector) → cross (step_of f) (from_to a b) ≡ pos 0 → sign (cross (from_to (scaled_point k u) (scaled_point k v)) (from_to a b)) ≡ Null
    line-null a b h =
        ap (λ d. sign (cross d (from_to a b))) line-is ∙ ap sign (first-times k (scaled_point m (step_of f)) (from_to a b)) ∙ plus-times k (cross (scaled_point m (step_of f)) (from_to a b)) hk
        ∙ ap sign (first-times m (step_of f) (from_to a b)) ∙ plus-times m (cross (step_of f) (from_to a b)) hm ∙ ap sign h

    on-first : cross (step_of f) (from_to (scaled_point k u) w) ≡ pos 0
    on-first = near-back k (step_of f) Y V u ∙ no-sum k (lies m Y f) (cross (step_of f) V) on-own own-way

    whole : cross (step_of f) (from_to (scaled_point k u) (scaled_point k v)) ≡ pos 0
    whole =
        ap (cross (step_of f)) line-is ∙ twice-along k (step_of f) m
      where
        twice-along : (k : ℤ) (d : Vector) (m : ℤ) → cross d (scaled_point k (scaled_point m d)) ≡ pos 0
        twice-along k d m =
            let k' = lift k in let m' = lift m in let d' = lift2 d in
            same (d'.x2 ⊠ (k' ⊠ (m' ⊠ d'.y2)) ⊟ d'.y2 ⊠ (k' ⊠ (m' ⊠ d'.x2))) (lift (pos 0)) (omega arith)

    on-last : cross (step_of f) (from_to w (scaled_point k v)) ≡ pos 0
    on-last = rest_nothing _ _ _ (cross-chain (step_of f) (scaled_point k u) w (scaled_point k v)) on-first whole

    rises : order (scaled_point k u) (scaled_point k v) ≡ Plus
    rises = order-scaled k hk u v ∙ order-scaled m hm f.from f.to ∙ r

    pub between-at : sign (w.y -ℤ k *ℤ u.y) ≡ Plus → sign (k *ℤ v.y -ℤ w.y) ≡ Plus → IsBetween (scaled_point k u) (scaled_point k v) w
    between-at h g = record {
      on_line = line-null (scaled_point k u) w on-first;
      after_s = line-order-up (scaled_point k u) (scaled_point k v) (scaled_point k u) w rises (line-null (scaled_point k u) w on-first) ∙ ap (λ z. then_sign z (sign (w.x -ℤ k *ℤ u.x))) h;
      before_t = line-order-up (scaled_point k u) (scaled_point k v) w (scaled_point k v) rises (line-null w (scaled_point k v) on-last) ∙ ap (λ z. then_sign z (sign (k *ℤ v.x -ℤ w.x))) g;
    }

  down-up : sign (pos 0 -ℤ V.y) ≡ Minus
  down-up = sign-reversed V.y (pos 0 -ℤ V.y) (omega (arith, ints)) ∙ ap negated i.above.up

  low-leads : (sign (f.from.y -ℤ p.y) ≡ Minus) ⊎ (sign (f.from.y -ℤ p.y) ≡ Null) → Leads (Y.y -ℤ u.y) (pos 0 -ℤ V.y)
  low-leads (inl h) = inl (ap (λ z. sign (z -ℤ u.y)) i.above.level ∙ minus-sign m hm p.y f.from.y ∙ sign-reversed (f.from.y -ℤ p.y) (p.y -ℤ f.from.y) (omega (arith, ints)) ∙ ap negated h)
  low-leads (inr h) =
      inr (ap (λ z. sign (z -ℤ u.y)) i.above.level ∙ minus-sign m hm p.y f.from.y ∙ sign-reversed (f.from.y -ℤ p.y) (p.y -ℤ f.from.y) (omega (arith, ints)) ∙ ap negated h, down-up)

  pub later-between : Later (λ k. IsBetween (scaled_point k u) (scaled_point k v) (near k Y V))
  later-between =
      let c = low-by (sign (f.from.y -ℤ p.y)) (sign (f.to.y -ℤ p.y)) s in
      let lo = later-leads (Y.y -ℤ u.y) (pos 0 -ℤ V.y) (low-leads c.0) in
      let hi = later-leads (v.y -ℤ Y.y) V.y (inl (ap (λ z. sign (v.y -ℤ z)) i.above.level ∙ minus-sign m hm f.to.y p.y ∙ c.1)) in
      later-then (λ k. (sign (k *ℤ (Y.y -ℤ u.y) -ℤ (pos 0 -ℤ V.y)) ≡ Plus) × (sign (k *ℤ (v.y -ℤ Y.y) -ℤ V.y) ≡ Plus)) (λ k. IsBetween (scaled_point k u) (scaled_point k v) (near k Y V))
      (λ k hk g. between-at k hk (ap sign (above-by k Y.y V.y u.y) ∙ g.0) (ap sign (below-by k Y.y V.y v.y) ∙ g.1))
      (later-both (λ k. sign (k *ℤ (Y.y -ℤ u.y) -ℤ (pos 0 -ℤ V.y)) ≡ Plus) (λ k. sign (k *ℤ (v.y -ℤ Y.y) -ℤ V.y) ≡ Plus) lo hi)
