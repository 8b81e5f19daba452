-- No point of a clear edge is in the square.
use Rattle.std.proofs.Common.{ap, arith, refl, subst, sym, ◌∙◌, ◌≡◌}
use borrow.Author.Differences.{ints}
use lib.IntN.{negsuc, pos, ℤ, ◌*ℤ◌, ◌+ℤ◌, ◌-ℤ◌}
use lib.Signed.{◌≤ℤ◌}
use Rattle.plane.specs.Edge.{Edge}
use Rattle.plane.specs.Scale.{scaled_point}
use Rattle.plane.specs.Sign.{Minus, Plus, sign}
use Rattle.plane.specs.Vector.{Vector, cross, from_to}
use Rattle.plane.proofs.PlaneKit.{cross-here, cross2, from_to2, lift2, same_vector}
use Rattle.plane.proofs.SignKit.{lift, plus-is, same, ◌⊞◌, ◌⊟◌, ◌⊠◌}
use Rattle.plane_lists.specs.Rounded.Clear.{IsClearOfSquare, IsLeftOf, IsLeftOfSquare}
use Rattle.plane_lists.specs.Rounded.Square.{IsNear, weighted_point}
use Rattle.plane_lists.proofs.Rounded.Nears.{gain, near-left}
use Rattle.lists.proofs.ListsKit.{product_not_below}

not-below : (a : ℤ) → (sign a ≡ Minus → ⊥) → pos 0 ≤ℤ a
not-below (pos n) h = omega (arith, ints)
not-below (negsuc n) h = absurd (h refl)

less-one : (a : ℤ) → sign a ≡ Plus → pos 0 ≤ℤ (a -ℤ pos 1)
less-one a h = let k = (plus-is a).0 h in omega (arith, ints)

weigh-by : (a b : ℤ) (d k u v : Vector) → a *ℤ cross d (from_to k u) +ℤ b *ℤ cross d (from_to k v) ≡ cross d (from_to (scaled_point (a +ℤ b) k) (record { x = a *ℤ u.x +ℤ b *ℤ v.x; y = a *ℤ u.y +ℤ b *ℤ v.y }))
weigh-by a b d k u v =
    let a' = lift a in let b' = lift b in let d' = lift2 d in let k' = lift2 k in let u' = lift2 u in let v' = lift2 v in
    same (a' ⊠ cross2 d' (from_to2 k' u') ⊞ b' ⊠ cross2 d' (from_to2 k' v'))
    (d'.x2 ⊠ (a' ⊠ u'.y2 ⊞ b' ⊠ v'.y2 ⊟ (a' ⊞ b') ⊠ k'.y2) ⊟ d'.y2 ⊠ (a' ⊠ u'.x2 ⊞ b' ⊠ v'.x2 ⊟ (a' ⊞ b') ⊠ k'.x2)) (omega arith)

whole : (a b c d : ℤ) → (a +ℤ b) +ℤ a *ℤ (c -ℤ pos 1) +ℤ b *ℤ (d -ℤ pos 1) ≡ a *ℤ c +ℤ b *ℤ d
whole a b c d =
    let a' = lift a in let b' = lift b in let c' = lift c in let d' = lift d in
    same ((a' ⊞ b') ⊞ a' ⊠ (c' ⊟ lift (pos 1)) ⊞ b' ⊠ (d' ⊟ lift (pos 1))) (a' ⊠ c' ⊞ b' ⊠ d') (omega arith)

spread : (m x h : ℤ) → m *ℤ (x +ℤ h) ≡ m *ℤ x +ℤ m *ℤ h
spread m x h = same (lift m ⊠ (lift x ⊞ lift h)) (lift m ⊠ lift x ⊞ lift m ⊠ lift h) (omega arith)

spread-back : (m x h : ℤ) → m *ℤ (x -ℤ h) ≡ m *ℤ x -ℤ m *ℤ h
spread-back m x h = same (lift m ⊠ (lift x ⊟ lift h)) (lift m ⊠ lift x ⊟ lift m ⊠ lift h) (omega arith)

module _ (h : ℤ) (p : Vector) (e : Edge) (c : IsClearOfSquare h p e) (a b : ℤ) (ha : sign a ≡ Minus → ⊥) (hb : sign b ≡ Minus → ⊥) (some : sign (a +ℤ b) ≡ Plus) where
  abbrev d : Vector
  d = c.along

  abbrev m : ℤ
  m = a +ℤ b

  abbrev point : Vector
  point = weighted_point a b e

  left-point : (k l : Vector) → scaled_point m k ≡ l → IsLeftOf d k e.from → IsLeftOf d k e.to → IsLeftOf d l point
  left-point k l s f t =
      subst (λ (w : Vector). IsLeftOf d w point) s
      (gain m (a *ℤ (cross d (from_to k e.from) -ℤ pos 1)) (b *ℤ (cross d (from_to k e.to) -ℤ pos 1)) (cross d (from_to (scaled_point m k) point)) some
      (product_not_below a (cross d (from_to k e.from) -ℤ pos 1) (not-below a ha) (less-one (cross d (from_to k e.from)) f))
      (product_not_below b (cross d (from_to k e.to) -ℤ pos 1) (not-below b hb) (less-one (cross d (from_to k e.to)) t))
      (whole a b (cross d (from_to k e.from)) (cross d (from_to k e.to)) ∙ weigh-by a b d k e.from e.to))

  left-square : IsLeftOfSquare (m *ℤ h) d (scaled_point m p) point
  left-square =
      let f = c.from_left in let t = c.to_left in
      let xu = spread m p.x h in let xd = spread-back m p.x h in let yu = spread m p.y h in let yd = spread-back m p.y h in
      record {
        upper_right = left-point _ _ (same_vector _ _ _ _ xu yu) f.upper_right t.upper_right;
        upper_left = left-point _ _ (same_vector _ _ _ _ xd yu) f.upper_left t.upper_left;
        lower_right = left-point _ _ (same_vector _ _ _ _ xu yd) f.lower_right t.lower_right;
        lower_left = left-point _ _ (same_vector _ _ _ _ xd yd) f.lower_left t.lower_left;
      }

  pub no-point : IsNear (m *ℤ h) (scaled_point m p) point → ⊥
  no-point n =
      let back : IsNear (m *ℤ h) point (scaled_point m p) = record { x_below = n.x_above; x_above = n.x_below; y_below = n.y_above; y_above = n.y_below } in
      let l = near-left (m *ℤ h) d (scaled_point m p) point (scaled_point m p) left-square back in
      let z = ap sign (cross-here d (scaled_point m p)) in cc (sym l ∙ z)
