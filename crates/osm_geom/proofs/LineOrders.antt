-- The order of lines in the numbers that the code computes is the plane's order just above a height.
use Rattle.std.proofs.Common.{◌≡◌, ℤ, pos, ◌+ℤ◌, ◌-ℤ◌, ◌*ℤ◌, ap, refl, sym, ◌∙◌, arith}
use Rattle.std.specs.Ordering.{int_cmp, ordering_then}
use Rattle.plane.specs.Edge as plane
use Rattle.plane.specs.Height.{distance_right, order_above}
use Rattle.plane.specs.Scale.{scaled_edge}
use Rattle.plane.specs.Sign.{Plus, sign}
use Rattle.plane.specs.Vector.{Vector, cross, from_to}
use Rattle.plane.proofs.SignKit.{lift, same, ◌⊞◌, ◌⊟◌, ◌⊠◌, plus-times, sign-pos}
use Rattle.plane.proofs.PlaneKit.{cross-scaled}
use Rattle.osm_geom.specs.declared.level.Level.{Level}
use Rattle.osm_geom.specs.declared.level.Line.{Line}
use Rattle.osm_geom.specs.LineOrder.{start_of, step_of, x_num, line_cmp}
use Rattle.osm_lattice.specs.OrderLaws.{ordering_of}
use Rattle.osm_lattice.proofs.LatticeKit.{int_cmp-is, ordering_of-then}

-- the numbers of a line, of a plane's edge
abbrev place : plane.Edge → ℤ → ℤ → ℤ
place e y q = e.from.x *ℤ (e.to.y -ℤ e.from.y) *ℤ q +ℤ (y -ℤ e.from.y *ℤ q) *ℤ (e.to.x -ℤ e.from.x)

pub rise_scaled : (q a b : ℤ) → q *ℤ b -ℤ q *ℤ a ≡ q *ℤ (b -ℤ a)
rise_scaled q a b = same (lift q ⊠ lift b ⊟ lift q ⊠ lift a) (lift q ⊠ (lift b ⊟ lift a)) (omega arith)

place_scaled : (q y a b c d : ℤ) → (q *ℤ a -ℤ pos 0) *ℤ (q *ℤ d -ℤ y) -ℤ (q *ℤ b -ℤ y) *ℤ (q *ℤ c -ℤ pos 0) ≡ q *ℤ (a *ℤ (d -ℤ b) *ℤ q +ℤ (y -ℤ b *ℤ q) *ℤ (c -ℤ a))
place_scaled q y a b c d =
    let q' = lift q in let y' = lift y in let a' = lift a in let b' = lift b in let c' = lift c in let d' = lift d in let o = lift (pos 0) in
    same ((q' ⊠ a' ⊟ o) ⊠ (q' ⊠ d' ⊟ y') ⊟ (q' ⊠ b' ⊟ y') ⊠ (q' ⊠ c' ⊟ o)) (q' ⊠ (a' ⊠ (d' ⊟ b') ⊠ q' ⊞ (y' ⊟ b' ⊠ q') ⊠ (c' ⊟ a'))) (omega arith)

crossed : (q r x s z : ℤ) → (q *ℤ r) *ℤ (q *ℤ z) -ℤ (q *ℤ x) *ℤ (q *ℤ s) ≡ q *ℤ (q *ℤ (z *ℤ r -ℤ x *ℤ s))
crossed q r x s z =
    let q' = lift q in let r' = lift r in let x' = lift x in let s' = lift s in let z' = lift z in
    same ((q' ⊠ r') ⊠ (q' ⊠ z') ⊟ (q' ⊠ x') ⊠ (q' ⊠ s')) (q' ⊠ (q' ⊠ (z' ⊠ r' ⊟ x' ⊠ s'))) (omega arith)

slopes : (a b c d : ℤ) → a *ℤ b -ℤ c *ℤ d ≡ a *ℤ b -ℤ d *ℤ c
slopes a b c d =
    let a' = lift a in let b' = lift b in let c' = lift c in let d' = lift d in
    same (a' ⊠ b' ⊟ c' ⊠ d') (a' ⊠ b' ⊟ d' ⊠ c') (omega arith)

module _ (q y : ℤ) (hq : sign q ≡ Plus) (e f : plane.Edge) where
  abbrev at : Vector
  at = record { x = pos 0; y = y }

  abbrev rise : plane.Edge → ℤ
  rise t = t.to.y -ℤ t.from.y

  abbrev run : plane.Edge → ℤ
  run t = t.to.x -ℤ t.from.x

  place_sign : sign (cross (distance_right at (scaled_edge q e)) (distance_right at (scaled_edge q f))) ≡ sign (place f y q *ℤ rise e -ℤ place e y q *ℤ rise f)
  place_sign =
      ap (λ r. sign (r *ℤ (distance_right at (scaled_edge q f)).y -ℤ (distance_right at (scaled_edge q e)).y *ℤ (distance_right at (scaled_edge q f)).x)) (rise_scaled q e.from.y e.to.y)
      ∙ ap (λ z. sign ((q *ℤ rise e) *ℤ z -ℤ (distance_right at (scaled_edge q e)).y *ℤ (distance_right at (scaled_edge q f)).x)) (place_scaled q y f.from.x f.from.y f.to.x f.to.y)
      ∙ ap (λ x. sign ((q *ℤ rise e) *ℤ (q *ℤ place f y q) -ℤ x *ℤ (distance_right at (scaled_edge q f)).x)) (place_scaled q y e.from.x e.from.y e.to.x e.to.y)
      ∙ ap (λ s. sign ((q *ℤ rise e) *ℤ (q *ℤ place f y q) -ℤ (q *ℤ place e y q) *ℤ s)) (rise_scaled q f.from.y f.to.y)
      ∙ ap sign (crossed q (rise e) (place e y q) (rise f) (place f y q))
      ∙ plus-times q (q *ℤ (place f y q *ℤ rise e -ℤ place e y q *ℤ rise f)) hq ∙ plus-times q (place f y q *ℤ rise e -ℤ place e y q *ℤ rise f) hq

  slope_sign : sign (cross (from_to (scaled_edge q f).from (scaled_edge q f).to) (from_to (scaled_edge q e).from (scaled_edge q e).to)) ≡ sign (run f *ℤ rise e -ℤ run e *ℤ rise f)
  slope_sign = cross-scaled q hq f.from f.to e.from e.to ∙ ap sign (slopes (run f) (rise e) (rise f) (run e))

  pub by_numbers : ordering_then (int_cmp (place e y q *ℤ rise f) (place f y q *ℤ rise e)) (int_cmp (run e *ℤ rise f) (run f *ℤ rise e)) ≡ ordering_of (order_above at (scaled_edge q e) (scaled_edge q f))
  by_numbers =
      ap (λ o. ordering_then o (int_cmp (run e *ℤ rise f) (run f *ℤ rise e))) (int_cmp-is (place e y q *ℤ rise f) (place f y q *ℤ rise e) ∙ ap ordering_of (sym place_sign))
      ∙ ap (λ o. ordering_then (ordering_of (sign (cross (distance_right at (scaled_edge q e)) (distance_right at (scaled_edge q f))))) o) (int_cmp-is (run e *ℤ rise f) (run f *ℤ rise e) ∙ ap ordering_of (sym slope_sign))
      ∙ ordering_of-then (sign (cross (distance_right at (scaled_edge q e)) (distance_right at (scaled_edge q f)))) (sign (cross (from_to (scaled_edge q f).from (scaled_edge q f).to) (from_to (scaled_edge q e).from (scaled_edge q e).to)))

x_num-is : (l : Line) (h : Level) (e : plane.Edge) → start_of l ≡ e.from → step_of l ≡ from_to e.from e.to → x_num l h ≡ place e h.num (pos h.den)
unfolding x_num
x_num-is l h e start step =
    rw (ap (λ (v : Vector). v.x) start, ap (λ (v : Vector). v.y) start, ap (λ (v : Vector). v.x) step, ap (λ (v : Vector). v.y) step) refl

pub line_cmp-is : (l m : Line) (h : Level) (e f : plane.Edge) → start_of l ≡ e.from → step_of l ≡ from_to e.from e.to → start_of m ≡ f.from → step_of m ≡ from_to f.from f.to →
    line_cmp l m h ≡ ordering_of (order_above (record { x = pos 0; y = h.num }) (scaled_edge (pos h.den) e) (scaled_edge (pos h.den) f))
unfolding line_cmp
line_cmp-is l m h e f start_l step_l start_m step_m =
    rw (x_num-is l h e start_l step_l, x_num-is m h f start_m step_m, ap (λ (v : Vector). v.x) step_l, ap (λ (v : Vector). v.y) step_l, ap (λ (v : Vector). v.x) step_m, ap (λ (v : Vector). v.y) step_m)
    (by_numbers (pos h.den) h.num (sign-pos h.den h.den_in.0) e f)
