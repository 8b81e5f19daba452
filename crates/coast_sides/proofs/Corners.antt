-- No corner of the world is strictly inside a segment.
use Rattle.std.proofs.Common.{◌≡◌, ⊎_elim, ℤ, pos, neg_ℤ, ◌<ℤ◌, ◌+ℤ◌, ◌-ℤ◌, ◌*ℤ◌, true, false, ◌&&◌, refl, sym, ap, ◌∙◌, arith}
use Rattle.std.specs.declared.cmp.Ordering.TheVariants.{Less}
use Rattle.std.proofs.lemmas.Bool.{false_from_ne_true, false≢true}
use Rattle.std.proofs.lemmas.Int.{ints}
use Rattle.plane.specs.Conflict.{is_inside}
use Rattle.plane.specs.Order.{order}
use Rattle.plane.specs.Sign.{Minus, Null, Plus, Sign, is_null, is_plus, negated, sign}
use Rattle.plane.specs.Vector.{orient}
use Rattle.plane.proofs.PlaneKit.{orient-round}
use Rattle.plane.proofs.SignKit.{minus-is, plus-is, sign-*, sign-reversed, times}
use Rattle.lists.proofs.ListsKit.{and-left, and-right, less_nothing}
use Rattle.osm_lattice.proofs.LatticeKit.{before_where}
use Rattle.osm_lattice.specs.declared.loc.Loc.{Loc}
use Rattle.osm_lattice.specs.declared.seg.Seg.{Seg}
use Rattle.osm_lattice.specs.Loc.{loc_cmp, vector_of}
use Rattle.osm_lattice.specs.OrderLaws.{LocationOrderIsPointOrder}
use Rattle.osm_lattice.specs.Seg.{edge_of}
use Rattle.coast_rings.specs.Corners.{south_east, south_west}
use Rattle.coast_sides.specs.Water.{north_east, north_west}
use Rattle.coast_sides.proofs.ClearSides.{plus_less, within_abs}

module _ (points : LocationOrderIsPointOrder) where
  -- strictly inside: on the line, after the lesser end and before the greater one
  pub inside_means : (n : Loc) (s : Seg) → is_inside (vector_of n) (edge_of s) ≡ true → (orient (vector_of s.a) (vector_of s.b) (vector_of n) ≡ Null) × (loc_cmp s.a n ≡ Less) × (loc_cmp n s.b ≡ Less)
  inside_means n s e =
      let line = and-left (is_null (orient (vector_of s.a) (vector_of s.b) (vector_of n))) (is_plus (order (vector_of s.a) (vector_of n)) && is_plus (order (vector_of n) (vector_of s.b))) e in
      let rest = and-right (is_null (orient (vector_of s.a) (vector_of s.b) (vector_of n))) (is_plus (order (vector_of s.a) (vector_of n)) && is_plus (order (vector_of n) (vector_of s.b))) e in
      let low = and-left (is_plus (order (vector_of s.a) (vector_of n))) (is_plus (order (vector_of n) (vector_of s.b))) rest in
      let high = and-right (is_plus (order (vector_of s.a) (vector_of n))) (is_plus (order (vector_of n) (vector_of s.b))) rest in
      (null_is (orient (vector_of s.a) (vector_of s.b) (vector_of n)) line, points s.a n ∙ plus_less (order (vector_of s.a) (vector_of n)) low, points n s.b ∙ plus_less (order (vector_of n) (vector_of s.b)) high)
    where
      null_is : (t : Sign) → is_null t ≡ true → t ≡ Null
      null_is Minus e = absurd (false≢true e)
      null_is Null e = refl
      null_is Plus e = absurd (false≢true e)

  pub south_west_outside : (s : Seg) → is_inside (vector_of south_west) (edge_of s) ≡ false
  south_west_outside s = false_from_ne_true _ (λ e.
      let m = inside_means south_west s e in
      let y = within_abs s.a.y 900000000 s.a.y_in in let y1 = y.1 in
      let x = within_abs s.a.x 1800000000 s.a.x_in in let x1 = x.1 in
      ⊎_elim (λ low. absurd (omega (arith, ints))) (λ low. let l0 = low.0 in let l1 = low.1 in absurd (omega (arith, ints))) (before_where s.a south_west m.1))

  pub north_east_outside : (s : Seg) → is_inside (vector_of north_east) (edge_of s) ≡ false
  north_east_outside s = false_from_ne_true _ (λ e.
      let m = inside_means north_east s e in
      let y = within_abs s.b.y 900000000 s.b.y_in in let y0 = y.0 in
      let x = within_abs s.b.x 1800000000 s.b.x_in in let x0 = x.0 in
      ⊎_elim (λ low. absurd (omega (arith, ints))) (λ low. let l0 = low.0 in let l1 = low.1 in absurd (omega (arith, ints))) (before_where north_east s.b m.2))

  minus_null : Minus ≡ Null → ⊥
  minus_null e = cc

  plus_null : Plus ≡ Null → ⊥
  plus_null e = cc

  pub south_east_outside : (s : Seg) → is_inside (vector_of south_east) (edge_of s) ≡ false
  south_east_outside s = false_from_ne_true _ (λ e.
      let m = inside_means south_east s e in
      let ya = within_abs s.a.y 900000000 s.a.y_in in let ya1 = ya.1 in
      let xb = within_abs s.b.x 1800000000 s.b.x_in in let xb0 = xb.0 in
      ⊎_elim (λ low. absurd (omega (arith, ints)))
      (λ low. ⊎_elim (λ high. turned s low.0 low.1 high m.0) (λ high. let h1 = high.1 in absurd (omega (arith, ints))) (before_where south_east s.b m.2))
      (before_where s.a south_east m.1))
    where
      turned : (s : Seg) → s.a.y ≡ neg_ℤ (pos 900000000) → s.a.x <ℤ pos 1800000000 → neg_ℤ (pos 900000000) <ℤ s.b.y → orient (vector_of s.a) (vector_of s.b) (vector_of south_east) ≡ Null → ⊥
      turned s y x h null =
          let n = vector_of south_east in
          let u = vector_of s.a in
          let v = vector_of s.b in
          let none : (s.a.y -ℤ neg_ℤ (pos 900000000)) *ℤ (s.b.x -ℤ pos 1800000000) ≡ pos 0 = zero_left (s.a.y -ℤ neg_ℤ (pos 900000000)) (s.b.x -ℤ pos 1800000000) (omega (arith, ints)) in
          let whole = ap sign (orient-round n u v) in
          let product = ap sign (less_nothing ((s.a.x -ℤ pos 1800000000) *ℤ (s.b.y -ℤ neg_ℤ (pos 900000000))) ((s.a.y -ℤ neg_ℤ (pos 900000000)) *ℤ (s.b.x -ℤ pos 1800000000)) none) in
          let signs = sign-* (s.a.x -ℤ pos 1800000000) (s.b.y -ℤ neg_ℤ (pos 900000000)) in
          let a : sign (s.a.x -ℤ pos 1800000000) ≡ Minus = (minus-is (s.a.x -ℤ pos 1800000000)).1 (omega (arith, ints)) in
          let b : sign (s.b.y -ℤ neg_ℤ (pos 900000000)) ≡ Plus = (plus-is (s.b.y -ℤ neg_ℤ (pos 900000000))).1 (omega (arith, ints)) in
          let turn : Minus ≡ Null = sym (whole ∙ (product ∙ (signs ∙ (ap (λ t. times t (sign (s.b.y -ℤ neg_ℤ (pos 900000000)))) a ∙ ap (times Minus) b)))) ∙ null in
          minus_null turn
        where
          zero_left : (d z : ℤ) → d ≡ pos 0 → d *ℤ z ≡ pos 0
          zero_left d z e = ap (λ w. w *ℤ z) e ∙ (omega (arith, ints))

  pub north_west_outside : (s : Seg) → is_inside (vector_of north_west) (edge_of s) ≡ false
  north_west_outside s = false_from_ne_true _ (λ e.
      let m = inside_means north_west s e in
      let xa = within_abs s.a.x 1800000000 s.a.x_in in let xa1 = xa.1 in
      let yb = within_abs s.b.y 900000000 s.b.y_in in let yb0 = yb.0 in
      ⊎_elim
      (λ low. ⊎_elim (λ high. absurd (omega (arith, ints))) (λ high. turned s low high.0 high.1 m.0) (before_where north_west s.b m.2))
      (λ low. let l1 = low.1 in absurd (omega (arith, ints)))
      (before_where s.a north_west m.1))
    where
      turned : (s : Seg) → s.a.y <ℤ pos 900000000 → pos 900000000 ≡ s.b.y → neg_ℤ (pos 1800000000) <ℤ s.b.x → orient (vector_of s.a) (vector_of s.b) (vector_of north_west) ≡ Null → ⊥
      turned s y h x null =
          let n = vector_of north_west in
          let u = vector_of s.a in
          let v = vector_of s.b in
          let none : (s.a.x -ℤ neg_ℤ (pos 1800000000)) *ℤ (s.b.y -ℤ pos 900000000) ≡ pos 0 = zero_right (s.a.x -ℤ neg_ℤ (pos 1800000000)) (s.b.y -ℤ pos 900000000) (omega (arith, ints)) in
          let whole = ap sign (orient-round n u v) in
          let product = sign-reversed ((s.a.y -ℤ pos 900000000) *ℤ (s.b.x -ℤ neg_ℤ (pos 1800000000))) ((s.a.x -ℤ neg_ℤ (pos 1800000000)) *ℤ (s.b.y -ℤ pos 900000000) -ℤ (s.a.y -ℤ pos 900000000) *ℤ (s.b.x -ℤ neg_ℤ (pos 1800000000)))
          (cancel ((s.a.y -ℤ pos 900000000) *ℤ (s.b.x -ℤ neg_ℤ (pos 1800000000))) ((s.a.x -ℤ neg_ℤ (pos 1800000000)) *ℤ (s.b.y -ℤ pos 900000000)) none) in
          let signs = sign-* (s.a.y -ℤ pos 900000000) (s.b.x -ℤ neg_ℤ (pos 1800000000)) in
          let a : sign (s.a.y -ℤ pos 900000000) ≡ Minus = (minus-is (s.a.y -ℤ pos 900000000)).1 (omega (arith, ints)) in
          let b : sign (s.b.x -ℤ neg_ℤ (pos 1800000000)) ≡ Plus = (plus-is (s.b.x -ℤ neg_ℤ (pos 1800000000))).1 (omega (arith, ints)) in
          let turn : Plus ≡ Null = sym (whole ∙ (product ∙ ap negated (signs ∙ (ap (λ t. times t (sign (s.b.x -ℤ neg_ℤ (pos 1800000000)))) a ∙ ap (times Minus) b)))) ∙ null in
          plus_null turn
        where
          zero_right : (d z : ℤ) → z ≡ pos 0 → d *ℤ z ≡ pos 0
          zero_right d z e = ap (λ w. d *ℤ w) e ∙ (omega (arith, ints))

          cancel : (m z : ℤ) → z ≡ pos 0 → m +ℤ (z -ℤ m) ≡ pos 0
          cancel m z e = omega (arith, ints)
