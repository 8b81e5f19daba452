-- Rounding as a move by a half at most.
use Rattle.std.proofs.Common.{All, List, ap, arith, refl, subst, sym, ℕ, ◌%◌, ◌*◌, ◌<◌, ◌∙◌, ◌≡◌}
use borrow.Author.Differences.{ints}
use lib.IntN.{pos, ℤ, ◌*ℤ◌, ◌+ℤ◌, ◌-ℤ◌}
use lib.Signed.{◌<ℤ◌, ◌≤ℤ◌}
use Rattle.plane.specs.Edge.{Edge}
use Rattle.plane.specs.RayCrossing.{IsOffEdge}
use Rattle.plane.specs.Scale.{scaled_edge, scaled_point}
use Rattle.plane.specs.Sign.{Plus, sign}
use Rattle.plane.specs.Vector.{Vector, east}
use Rattle.plane_lists.specs.Lists.EdgeList.{IsBalanced, crossing_count, winding_number}
use Rattle.plane_lists.specs.Lists.ScaledEdges.{scaled_edges}
use Rattle.lists.proofs.ListsKit.{all-in, floor_above, floor_below, in-all, in-map-out, map-map, product_not_below}
use Rattle.plane.proofs.SignKit.{lift, plus-is, same, ◌⊞◌, ◌⊟◌, ◌⊠◌}
use Rattle.plane.proofs.PlaneKit.{point-turned}
use Rattle.plane_lists.proofs.WindingKit.{all-off-back, count-scaled, winding-scaled}
use Rattle.plane_lists.specs.Rounded.MovedLaws.{AreMovedWithin}
use Rattle.plane_lists.specs.Rounded.RoundedEdges.{rounded_edges, rounded_point, whole_near}
use Rattle.plane_lists.specs.Rounded.RoundedLaws.{IsBeyondHalf}
use Rattle.plane_lists.specs.Rounded.Square.{HasNoPointNear, IsNear, moved_edge, moved_edges}
use Rattle.plane_lists.proofs.Rounded.Moves.{moved-odd, moved-off, moved-winds}
use Rattle.plane_lists.proofs.Rounded.Nears.{near-itself}

turned : (r : ℤ) (m : ℕ) → r *ℤ pos (2 * m) ≡ pos 2 *ℤ (pos m *ℤ r)
turned r m = same (lift r ⊠ lift (pos (2 * m))) (lift (pos 2) ⊠ (lift (pos m) ⊠ lift r)) (omega arith)

half : (z q : ℤ) (m : ℕ) → (z +ℤ pos m) <ℤ (q +ℤ pos (2 * m)) → z ≤ℤ (q +ℤ pos m)
half z q m h = omega (arith, ints)

whole-below : (z : ℤ) (m : ℕ) → 0 < m → (pos 2 *ℤ (pos m *ℤ whole_near z m)) ≤ℤ (pos 2 *ℤ z +ℤ pos m)
whole-below z m h =
    subst (λ (k : ℤ). k ≤ℤ (pos 2 *ℤ z +ℤ pos m)) (turned (whole_near z m) m) (floor_below (pos 2 *ℤ z +ℤ pos m) (2 * m) (omega arith))

whole-above : (z : ℤ) (m : ℕ) → 0 < m → (pos 2 *ℤ z) ≤ℤ (pos 2 *ℤ (pos m *ℤ whole_near z m) +ℤ pos m)
whole-above z m h =
    half (pos 2 *ℤ z) (pos 2 *ℤ (pos m *ℤ whole_near z m)) m
    (subst (λ (k : ℤ). (pos 2 *ℤ z +ℤ pos m) <ℤ (k +ℤ pos (2 * m))) (turned (whole_near z m) m) (floor_above (pos 2 *ℤ z +ℤ pos m) (2 * m) (omega arith)))

pub rounded-near : (m : ℕ) → 0 < m → (p : Vector) → IsNear (pos m) (scaled_point (pos 2) p) (scaled_point (pos 2) (scaled_point (pos m) (rounded_point m p)))
rounded-near m h p = record { x_below = whole-below p.x m h; x_above = whole-above p.x m h; y_below = whole-below p.y m h; y_above = whole-above p.y m h }

-- ---- multiplied by q
times-below : (q a b h : ℤ) → pos 0 ≤ℤ q → a ≤ℤ (b +ℤ h) → (q *ℤ a) ≤ℤ (q *ℤ b +ℤ q *ℤ h)
times-below q a b h some l =
    let e : q *ℤ ((b +ℤ h) -ℤ a) ≡ (q *ℤ b +ℤ q *ℤ h) -ℤ q *ℤ a = same (lift q ⊠ ((lift b ⊞ lift h) ⊟ lift a)) ((lift q ⊠ lift b ⊞ lift q ⊠ lift h) ⊟ lift q ⊠ lift a) (omega arith) in
    let p = product_not_below q ((b +ℤ h) -ℤ a) some (omega (arith, ints)) in omega (arith, ints)

near-times : (q h : ℤ) (u v : Vector) → pos 0 ≤ℤ q → IsNear h u v → IsNear (q *ℤ h) (scaled_point q u) (scaled_point q v)
near-times q h u v some n = record {
  x_below = times-below q v.x u.x h some n.x_below;
  x_above = times-below q u.x v.x h some n.x_above;
  y_below = times-below q v.y u.y h some n.y_below;
  y_above = times-below q u.y v.y h some n.y_above;
}

module _ (m : ℕ) (some : 0 < m) (es : List Edge) (q : ℤ) (plus : sign q ≡ Plus) (p : Vector) (far : All (IsBeyondHalf m q p) es) where
  positive : sign (pos m) ≡ Plus
  positive = (plus-is (pos m)).1 (omega (arith, ints))

  abbrev double : Vector → Vector
  double v = scaled_point (pos 2) (scaled_point q v)

  abbrev image : Vector → Vector
  image v = scaled_point (pos 2) (scaled_point (pos m) (scaled_point q (rounded_point m v)))

  abbrev half_unit : ℤ
  half_unit = q *ℤ pos m

  abbrev centre : Vector
  centre = scaled_point (pos 2) (scaled_point (pos m) p)

  far-double : All (HasNoPointNear half_unit centre) (moved_edges double es)
  far-double =
      all-in (HasNoPointNear half_unit centre) (moved_edges double es) (λ w j.
      let r = in-map-out (moved_edge double) es w j in
      subst (λ (w : Edge). HasNoPointNear half_unit centre w) (sym r.2) (in-all (IsBeyondHalf m q p) es r.0 far r.1))

  point-near : (v : Vector) → IsNear half_unit (double v) (image v)
  point-near v =
      let r = rounded_point m v in let k = (plus-is q).0 plus in
      subst (λ (w : Vector). IsNear half_unit (double v) w) (point-turned q (pos 2) (scaled_point (pos m) r) ∙ ap (scaled_point (pos 2)) (point-turned q (pos m) r))
      (subst (λ (w : Vector). IsNear half_unit w (scaled_point q (scaled_point (pos 2) (scaled_point (pos m) r)))) (point-turned q (pos 2) v)
      (near-times q (pos m) (scaled_point (pos 2) v) (scaled_point (pos 2) (scaled_point (pos m) r)) (omega (arith, ints)) (rounded-near m some v)))

  within : AreMovedWithin half_unit double image es
  within = λ e i. (point-near e.from, point-near e.to)

  at-rest : AreMovedWithin half_unit double double es
  at-rest = λ e i. (near-itself half_unit (double e.from) (image e.from) (point-near e.from), near-itself half_unit (double e.to) (image e.to) (point-near e.to))

  doubles : scaled_edges (pos 2) (scaled_edges q es) ≡ moved_edges double es
  doubles = map-map (scaled_edge (pos 2)) (scaled_edge q) es

  images : scaled_edges (pos 2) (scaled_edges (pos m) (scaled_edges q (rounded_edges m es))) ≡ moved_edges image es
  images =
      ap (λ (l : List Edge). scaled_edges (pos 2) (scaled_edges (pos m) l)) (map-map (scaled_edge q) (moved_edge (rounded_point m)) es)
      ∙ ap (scaled_edges (pos 2)) (map-map (scaled_edge (pos m)) (λ e. scaled_edge q (moved_edge (rounded_point m) e)) es)
      ∙ map-map (scaled_edge (pos 2)) (λ e. scaled_edge (pos m) (scaled_edge q (moved_edge (rounded_point m) e))) es

  pub beyond-off : All (IsOffEdge (scaled_point (pos m) p)) (scaled_edges q es)
  beyond-off =
      all-off-back (pos 2) refl (scaled_point (pos m) p) (scaled_edges q es)
      (subst (λ (l : List Edge). All (IsOffEdge centre) l) (sym doubles) (moved-off half_unit double double es at-rest centre far-double))

  pub rounded-off : All (IsOffEdge p) (scaled_edges q (rounded_edges m es))
  rounded-off =
      all-off-back (pos m) positive p (scaled_edges q (rounded_edges m es))
      (all-off-back (pos 2) refl (scaled_point (pos m) p) (scaled_edges (pos m) (scaled_edges q (rounded_edges m es)))
      (subst (λ (l : List Edge). All (IsOffEdge centre) l) (sym images) (moved-off half_unit double image es within centre far-double)))

  pub rounded-winds : IsBalanced es → winding_number east p (scaled_edges q (rounded_edges m es)) ≡ winding_number east (scaled_point (pos m) p) (scaled_edges q es)
  rounded-winds b =
      let R = scaled_edges q (rounded_edges m es) in
      sym (winding-scaled (pos m) positive east p R) ∙ sym (winding-scaled (pos 2) refl east (scaled_point (pos m) p) (scaled_edges (pos m) R))
      ∙ ap (λ (l : List Edge). winding_number east centre l) images ∙ moved-winds half_unit double image es within centre far-double b
      ∙ ap (λ (l : List Edge). winding_number east centre l) (sym doubles) ∙ winding-scaled (pos 2) refl east (scaled_point (pos m) p) (scaled_edges q es)

  pub rounded-odd : IsBalanced es → crossing_count east p (scaled_edges q (rounded_edges m es)) % 2 ≡ crossing_count east (scaled_point (pos m) p) (scaled_edges q es) % 2
  rounded-odd b =
      let R = scaled_edges q (rounded_edges m es) in
      ap (λ (n : ℕ). n % 2) (sym (count-scaled (pos m) positive east p R) ∙ sym (count-scaled (pos 2) refl east (scaled_point (pos m) p) (scaled_edges (pos m) R))
      ∙ ap (λ (l : List Edge). crossing_count east centre l) images) ∙ moved-odd half_unit double image es within centre far-double b
      ∙ ap (λ (n : ℕ). n % 2) (ap (λ (l : List Edge). crossing_count east centre l) (sym doubles) ∙ count-scaled (pos 2) refl east (scaled_point (pos m) p) (scaled_edges q es))
