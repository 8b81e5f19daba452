-- A walk along the line, one end after the other.
use Rattle.std.proofs.Common.{All, Bool, List, [], ap, arith, cond, false, get_or, length, not, pos, refl, subst, sym, take, true, ℕ, ℤ, ◌*ℤ◌, ◌-ℤ◌, ◌++◌, ◌+◌, ◌<◌, ◌∙◌, ◌∷◌, ◌≡◌, ◌||◌}
use Rattle.std.proofs.lemmas.List.{append-nil, append_assoc, length-take-le, take_more}
use Rattle.plane.specs.Sign.{Minus, Null, Plus, Sign, is_plus, sign}
use Rattle.osm_geom.specs.declared.cut.Axis.{Axis}
use Rattle.osm_geom.specs.declared.cut.Axis.TheVariants.{X, Y}
use Rattle.osm_geom.specs.declared.cut.Cut.{Cut}
use Rattle.osm_geom.specs.declared.cut.Side.{Side}
use Rattle.osm_geom.specs.declared.edge.Carrier.{Carrier}
use Rattle.osm_geom.specs.declared.edge.Carrier.TheVariants.{Vertical, Horizontal}
use Rattle.osm_geom.specs.declared.edge.Edge.{Edge}
use Rattle.osm_geom.specs.declared.point.Part.{Part}
use Rattle.osm_geom.specs.declared.point.Point.{Point}
use Rattle.osm_geom.specs.declared.point.Point.TheVariants.{Lattice, OnVertical, OnHorizontal}
use Rattle.osm_geom.specs.Carrier.{has_x, has_y, is_on}
use Rattle.osm_geom.specs.Cut.{carrier_by, carrier_of_cut, cut_order}
use Rattle.osm_geom.specs.Part.{part_num}
use Rattle.osm_geom.specs.Point.{den_of, point_order, whole_of}
use Rattle.plane.specs.Scale.{scaled_point}
use Rattle.coast_split.specs.Half.{IsLink, NextLink, line_order, runs_forward}
use Rattle.coast_split.specs.Walk.{AddsLink, AddsWalk, IsEndOnLine, IsWalkFrom, is_skipped, last_of_walk}
use Rattle.plane.proofs.PlaneKit.{order-self-null}
use Rattle.lists.proofs.ListsKit.{int_eq-same}
use Rattle.plane.proofs.SignKit.{null-zero}
use Rattle.osm_geom.proofs.GeometryKit.{order_at, part_whole}
use Rattle.osm_lattice.proofs.LatticeKit.{signed}

-- ---- a point on the line is on the line's carrier
same-one : (at n : ℤ) → sign (at *ℤ pos 1 -ℤ n) ≡ Null → n ≡ at
same-one at n h = let z = null-zero (at *ℤ pos 1 -ℤ n) h in omega (arith, signed)

no-part : (at : ℤ) (y : Part) → sign (at *ℤ pos y.den -ℤ part_num y.floor y.above y.den) ≡ Null → ⊥
no-part at y h =
    let z = null-zero (at *ℤ pos y.den -ℤ part_num y.floor y.above y.den) h in
    part_whole at y (omega (arith, signed))

on-x : (at : ℤ) (p : Point) → order_at X at p ≡ Null → has_x at p ≡ true
on-x at (Lattice p) h = int_eq-same p.x at (same-one at p.x h)
on-x at (OnVertical c y) h = int_eq-same c at (same-one at c h)
on-x at (OnHorizontal x d) h = absurd (no-part at x h)

on-y : (at : ℤ) (p : Point) → order_at Y at p ≡ Null → has_y at p ≡ true
on-y at (Lattice p) h = int_eq-same p.y at (same-one at p.y h)
on-y at (OnVertical c y) h = absurd (no-part at y h)
on-y at (OnHorizontal x d) h = int_eq-same d at (same-one at d h)

vertical-by : (at : ℤ) (p : Point) → order_at X at p ≡ Null → is_on (Vertical at) p ≡ true
unfolding is_on
vertical-by at p h = on-x at p h

horizontal-by : (at : ℤ) (p : Point) → order_at Y at p ≡ Null → is_on (Horizontal at) p ≡ true
unfolding is_on
horizontal-by at p h = on-y at p h

on-by : (axis : Axis) (cut : Cut) (p : Point) → order_at axis cut.at p ≡ Null → is_on (carrier_by axis cut) p ≡ true
on-by X cut p h = vertical-by cut.at p h
on-by Y cut p h = horizontal-by cut.at p h

pub on-cut : (cut : Cut) (p : Point) (k : Carrier) → k ≡ carrier_of_cut cut → cut_order cut p ≡ Null → is_on k p ≡ true
on-cut cut p k e h = subst (λ k. is_on k p ≡ true) (sym e) (on-by cut.axis cut p h)

pub adds-link : (cut : Cut) (z w : Point) (b : Bool) (e : Edge) (old new : List Edge) → b ≡ false → IsLink cut z w e → new ≡ old ++ e ∷ [] → AddsLink cut z w b old new
adds-link cut z w b e old new h i grown = subst (λ x. AddsLink cut z w x old new) (sym h) (e, i, grown)

-- ---- an end that follows another along the line is another
line-self-by : (b : Bool) (p : Point) → cond b (point_order p p) (point_order p p) ≡ Null
line-self-by true p = order-self-null (scaled_point (pos (den_of p)) (whole_of p))
line-self-by false p = order-self-null (scaled_point (pos (den_of p)) (whole_of p))

pub line-self : (cut : Cut) (s : Side) (p : Point) → line_order cut s p p ≡ Null
line-self cut s p = line-self-by (runs_forward cut.axis s) p

skip-by : (o : Sign) (b : Bool) → (not (is_plus o) || b) ≡ false → o ≡ Plus
skip-by Plus b h = refl
skip-by Null b h = absurd (cc h)
skip-by Minus b h = absurd (cc h)

pub follows : (cut : Cut) (s : Side) (n i : ℕ) (z w : Point) → is_skipped cut s n i z w ≡ false → line_order cut s z w ≡ Plus
follows cut s n i z w h = skip-by (line_order cut s z w) _ h

pub not-one : (cut : Cut) (s : Side) (n i : ℕ) (z w : Point) → is_skipped cut s n i z w ≡ false → z ≡ w → ⊥
not-one cut s n i z w h e = cc (sym (follows cut s n i z w h) ∙ ap (line_order cut s z) (sym e) ∙ line-self cut s z)

-- ---- one end more
plus-none : (i : ℕ) → i + length {A = Point} [] ≡ i
plus-none i = omega arith

plus-one : (i : ℕ) (x : Point) (r : List Point) → i + length (x ∷ r) ≡ (i + 1) + length r
plus-one i x r = omega arith

module _ (cut : Cut) (s : Side) (n : ℕ) where
  first-link : (z w : Point) (P : List Edge → Type 0) (b : Bool) (ls new : List Edge) → P [] → ls ≡ [] → AddsLink cut z w b ls new → NextLink cut z w b P new
  first-link z w P true ls new p h a = subst P (sym (a ∙ h)) p
  first-link z w P false ls new p h a = subst (NextLink cut z w false P) (sym (a.2 ∙ ap (λ l. l ++ a.0 ∷ []) h)) (a.1, p)

  abbrev Splits : Edge → List Edge → Point → Point → Bool → List Edge → Type 0
  Splits e ls z w b new = (us : List Edge) × AddsLink cut z w b ls us × (new ≡ e ∷ us)

  split : (e : Edge) (ls : List Edge) (z w : Point) (b : Bool) (new : List Edge) → AddsLink cut z w b (e ∷ ls) new → Splits e ls z w b new
  split e ls z w true new a = (ls, refl, a)
  split e ls z w false new a = (ls ++ a.0 ∷ [], (a.0, a.1, refl), a.2)

  later-link : (z x : Point) (c : Bool) (P Q : List Edge → Type 0) (u w : Point) (b : Bool) (ls new : List Edge) → ((ms ns : List Edge) → P ms → AddsLink cut u w b ms ns → Q ns) → NextLink cut z x c P ls → AddsLink cut u w b ls new → NextLink cut z x c Q new
  later-link z x true P Q u w b ls new f h a = f ls new h a
  later-link z x false P Q u w b [] new f h a = absurd h
  later-link z x false P Q u w b (e ∷ ls) new f h a = let r = split e ls u w b new a in subst (NextLink cut z x false Q) (sym r.2) (h.0, f ls r.0 h.1 r.1)

  pub walk-more : (i : ℕ) (z : Point) (r : List Point) (ls : List Edge) (w : Point) (new : List Edge) → IsWalkFrom cut s n i z r ls → AddsLink cut (last_of_walk z r) w (is_skipped cut s n (i + length r) (last_of_walk z r) w) ls new → IsWalkFrom cut s n i z (r ++ w ∷ []) new
  walk-more i z [] ls w new h a =
      first-link z w (IsWalkFrom cut s n (i + 1) w []) (is_skipped cut s n i z w) ls new refl h (subst (λ k. AddsLink cut z w (is_skipped cut s n k z w) ls new) (plus-none i) a)
  walk-more i z (x ∷ r) ls w new h a =
      later-link z x (is_skipped cut s n i z x) (IsWalkFrom cut s n (i + 1) x r) (IsWalkFrom cut s n (i + 1) x (r ++ w ∷ [])) (last_of_walk x r) w (is_skipped cut s n (i + length (x ∷ r)) (last_of_walk x r) w) ls new
      (λ ms ns p q. walk-more (i + 1) x r ms w ns p (subst (λ k. AddsLink cut (last_of_walk x r) w (is_skipped cut s n k (last_of_walk x r) w) ms ns) (plus-one i x r) q)) h a

pub last-more : (z : Point) (r : List Point) (w : Point) → last_of_walk z (r ++ w ∷ []) ≡ w
last-more z [] w = refl
last-more z (x ∷ r) w = last-more x r w

module _ (cut : Cut) (s : Side) (n : ℕ) (first : Point) (rest : List Point) (i : ℕ) (links new : List Edge) (before w : Point) where
  pub walk-step : IsWalkFrom cut s n 1 first (take i rest) links → before ≡ last_of_walk first (take i rest) → w ≡ get_or rest i w → i < length rest →
      AddsLink cut before w (is_skipped cut s n (i + 1) before w) links new → All (IsEndOnLine cut) rest →
      IsWalkFrom cut s n 1 first (take (i + 1) rest) new × (w ≡ last_of_walk first (take (i + 1) rest)) × IsEndOnLine cut w
  walk-step so_far b is inside a ends =
      let t = take_more rest i w inside ∙ ap (λ x. take i rest ++ x ∷ []) (sym is) in
      let l : i + 1 ≡ 1 + length (take i rest) = omega (arith, length-take-le i rest (omega arith)) in
      let a' = subst (λ k. AddsLink cut before w (is_skipped cut s n k before w) links new) l a in
      let a'' = subst (λ p. AddsLink cut p w (is_skipped cut s n (1 + length (take i rest)) p w) links new) b a' in (
        subst (λ r. IsWalkFrom cut s n 1 first r new) (sym t) (walk-more cut s n 1 first (take i rest) links w new so_far a''),
        sym (ap (last_of_walk first) t ∙ last-more first (take i rest) w),
        subst (IsEndOnLine cut) (sym is) (ends i w inside),
      )

-- ---- the same behind another list
link-behind : (cut : Cut) (z w : Point) (b : Bool) (old ls now new : List Edge) → now ≡ old ++ ls → AddsLink cut z w b now new → (ms : List Edge) × AddsLink cut z w b ls ms × (new ≡ old ++ ms)
link-behind cut z w true old ls now new e a = (ls, refl, a ∙ e)
link-behind cut z w false old ls now new e a = (ls ++ a.0 ∷ [], (a.0, a.1, refl), a.2 ∙ ap (λ l. l ++ a.0 ∷ []) e ∙ append_assoc old ls (a.0 ∷ []))

pub added-none : (cut : Cut) (s : Side) (n : ℕ) (first : Point) (old : List Edge) → AddsWalk cut s n first [] old old
added-none cut s n first old = ([], refl, sym (append-nil old))

pub added-step : (cut : Cut) (s : Side) (n : ℕ) (first : Point) (rest : List Point) (i : ℕ) (old now new : List Edge) (before w : Point) →
    AddsWalk cut s n first (take i rest) old now → before ≡ last_of_walk first (take i rest) → w ≡ get_or rest i w → i < length rest →
    AddsLink cut before w (is_skipped cut s n (i + 1) before w) now new → All (IsEndOnLine cut) rest →
    AddsWalk cut s n first (take (i + 1) rest) old new × (w ≡ last_of_walk first (take (i + 1) rest)) × IsEndOnLine cut w
added-step cut s n first rest i old now new before w so_far b is inside a ends =
    let r = link-behind cut before w (is_skipped cut s n (i + 1) before w) old so_far.0 now new so_far.2 a in
    let t = walk-step cut s n first rest i so_far.0 r.0 before w so_far.1 b is inside r.1 ends in ((r.0, t.0, r.2), t.1, t.2)
