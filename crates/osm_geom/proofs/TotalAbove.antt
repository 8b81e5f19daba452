-- The order of edges just above a height that they span is total, and ties exactly those on one line.
use Rattle.std.proofs.Common.{◌≡◌, ◌≢◌, ◌↔◌, Bool, true, false, not, ◌&&◌, cond, ℕ, ◌*◌, ◌≤◌, ℤ, pos, ◌-ℤ◌, ◌*ℤ◌, refl, sym, ap, ◌∙◌, subst, arith}
use Rattle.std.proofs.lemmas.Int.{ints}
use Rattle.std.specs.Ordering.{ordering_reverse}
use Rattle.std.specs.declared.cmp.Ordering.TheVariants.{Less, Equal}
use Rattle.plane.specs.Conflict.{is_along}
use Rattle.plane.specs.Edge as plane
use Rattle.plane.specs.Height.{order_above}
use Rattle.plane.specs.RayCrossing.{off_by}
use Rattle.plane.specs.Scale.{scaled_edge}
use Rattle.plane.specs.Sign.{Sign, Plus, Null, Minus, is_minus, is_null, is_plus, negated, sign, then_sign}
use Rattle.plane.specs.Vector.{cross, dot, from_to}
use Rattle.plane.proofs.SignKit.{lift, same, ◌⊟◌, ◌⊠◌, agree, null-zero, plus-times, sign-reversed}
use Rattle.lists.proofs.ListsKit.{int_eq-true, same_from_difference}
use Rattle.plane.proofs.PlaneKit.{minus-sign}
use Rattle.osm_geom.specs.declared.edge.Carrier.{Carrier}
use Rattle.osm_geom.specs.declared.edge.Carrier.TheVariants.{OfSeg, Vertical, Horizontal}
use Rattle.osm_geom.specs.declared.edge.Edge.{Edge}
use Rattle.osm_geom.specs.declared.point.Point.{Point}
use Rattle.osm_geom.specs.declared.point.Point.TheVariants.{Lattice, OnVertical, OnHorizontal}
use Rattle.osm_lattice.specs.declared.seg.Seg.{Seg}
use Rattle.osm_geom.specs.Carrier.{has_y, is_on}
use Rattle.osm_geom.specs.Edge.{runs_up}
use Rattle.osm_geom.specs.JustAbove.{height_of, just_above_cmp, piece_of}
use Rattle.osm_lattice.specs.OrderLaws.{ordering_of}
use Rattle.osm_geom.specs.Point.{den_of, whole_of, x_of, y_of}
use Rattle.osm_lattice.specs.Seg.{edge_of}
use Rattle.osm_geom.specs.Span.{height_order, lower_end, spans, upper_end}
use Rattle.osm_lattice.proofs.LatticeKit.{cancel_factor, some, zero_other, rising_edge, equal-null}
use Rattle.osm_geom.proofs.LinesAbove.{IsTall, along-scaled, order_above-reversed, order_above-sum, tie_along}
use Rattle.osm_geom.proofs.PointOrders.{den-sign, x_den-some, y_den-sign}
use Rattle.osm_geom.proofs.SignOrders.{chains, reverses, ties_alike}

-- ---- an edge along one height spans no height
abbrev IsAtHeight : ℤ → Point → Type 0
IsAtHeight d p = (y_of p).num ≡ d *ℤ pos (y_of p).den

below : (y d : ℤ) (k m : ℕ) → sign (pos k) ≡ Plus → sign (y *ℤ pos k -ℤ (d *ℤ pos k) *ℤ pos m) ≡ sign (y -ℤ d *ℤ pos m)
below y d k m h =
    let y' = lift y in let d' = lift d in let k' = lift (pos k) in let m' = lift (pos m) in
    ap sign (same (y' ⊠ k' ⊟ (d' ⊠ k') ⊠ m') (k' ⊠ (y' ⊟ d' ⊠ m')) (omega arith)) ∙ plus-times (pos k) (y -ℤ d *ℤ pos m) h

above : (y d : ℤ) (k m : ℕ) → sign (pos k) ≡ Plus → sign ((d *ℤ pos k) *ℤ pos m -ℤ y *ℤ pos k) ≡ negated (sign (y -ℤ d *ℤ pos m))
above y d k m h =
    let y' = lift y in let d' = lift d in let k' = lift (pos k) in let m' = lift (pos m) in
    ap sign (same ((d' ⊠ k') ⊠ m' ⊟ y' ⊠ k') (k' ⊠ (d' ⊠ m' ⊟ y')) (omega arith)) ∙ plus-times (pos k) (d *ℤ pos m -ℤ y) h
    ∙ sign-reversed (y -ℤ d *ℤ pos m) (d *ℤ pos m -ℤ y) (omega (arith, ints))

never : (s : Sign) → (not (is_minus s) && is_plus (negated s)) ≡ true → ⊥
never Plus h = cc
never Null h = cc
never Minus h = cc

flat : (d : ℤ) (low high at : Point) → IsAtHeight d low → IsAtHeight d high → (not (is_minus (height_order low at)) && is_plus (height_order at high)) ≡ true → ⊥
flat d low high at l h spanned =
    let s = (y_of at).num -ℤ d *ℤ pos (y_of at).den in
    let under : height_order low at ≡ sign s = ap (λ z. sign ((y_of at).num *ℤ pos (y_of low).den -ℤ z *ℤ pos (y_of at).den)) l ∙ below (y_of at).num d (y_of low).den (y_of at).den (y_den-sign low) in
    let over : height_order at high ≡ negated (sign s) = ap (λ z. sign (z *ℤ pos (y_of at).den -ℤ (y_of at).num *ℤ pos (y_of high).den)) h ∙ above (y_of at).num d (y_of high).den (y_of at).den (y_den-sign high) in
    never (sign s) (subst (λ t. (not (is_minus t) && is_plus (negated (sign s))) ≡ true) under (subst (λ t. (not (is_minus (height_order low at)) && is_plus t) ≡ true) over spanned))

one_of : (P : Point → Type 0) (b : Bool) (p q : Point) → P p → P q → P (cond b p q)
one_of P true p q h k = h
one_of P false p q h k = k

spans_flat : (e : Edge) (at : Point) (d : ℤ) → IsAtHeight d e.from → IsAtHeight d e.to → spans e at ≡ true → ⊥
unfolding spans
spans_flat e at d from to h =
    flat d (lower_end e) (upper_end e) at (one_of (IsAtHeight d) (runs_up e) e.from e.to from to) (one_of (IsAtHeight d) (runs_up e) e.to e.from to from) h

-- ---- so what carries an edge that spans a height rises
level_point : (d : ℤ) (p : Point) → has_y d p ≡ true → IsAtHeight d p
level_point d (Lattice p) h = let e = int_eq-true p.y d h in omega (arith, ints, e)
level_point d (OnVertical x y) h = cc
level_point d (OnHorizontal x y) h = let e = int_eq-true y d h in omega (arith, ints, e)

on_level : (d : ℤ) (p : Point) → is_on (Horizontal d) p ≡ true → IsAtHeight d p
unfolding is_on
on_level d p h = level_point d p h

on_line : (c s : Sign) → not (off_by c s) ≡ true → c ≡ Null
on_line Null s h = refl
on_line Plus s h = absurd (cc h)
on_line Minus s h = absurd (cc h)

-- the cross product of the steps from (x, y) to the points (k a, k d) and (k b, k d)
flat_cross : (k a b d x y : ℤ) → (k *ℤ a -ℤ x) *ℤ (k *ℤ d -ℤ y) -ℤ (k *ℤ d -ℤ y) *ℤ (k *ℤ b -ℤ x) ≡ (k *ℤ (b -ℤ a)) *ℤ (y -ℤ k *ℤ d)
flat_cross k a b d x y =
    let k' = lift k in let a' = lift a in let b' = lift b in let d' = lift d in let x' = lift x in let y' = lift y in
    same ((k' ⊠ a' ⊟ x') ⊠ (k' ⊠ d' ⊟ y') ⊟ (k' ⊠ d' ⊟ y') ⊠ (k' ⊠ b' ⊟ x')) ((k' ⊠ (b' ⊟ a')) ⊠ (y' ⊟ k' ⊠ d')) (omega arith)

plus-nonzero : (z : ℤ) → sign z ≡ Plus → z ≢ pos 0
plus-nonzero z h e = let t = ap sign e in cc

flat_height : (n d : ℤ) (k m : ℕ) → 1 ≤ k → n *ℤ pos k ≡ pos (k * m) *ℤ d → n ≡ d *ℤ pos m
flat_height n d k m h e = cancel_factor n (d *ℤ pos m) (pos k) (some k h) (turned n (pos k) ∙ (e ∙ regrouped d k m))
  where
    turned : (a b : ℤ) → b *ℤ a ≡ a *ℤ b
    turned a b = omega (arith, ints)

    regrouped : (d : ℤ) (k m : ℕ) → pos (k * m) *ℤ d ≡ pos k *ℤ (d *ℤ pos m)
    regrouped d k m = let d' = lift d in let k' = lift (pos k) in let m' = lift (pos m) in same (k' ⊠ m' ⊠ d') (k' ⊠ (d' ⊠ m')) (omega arith)

on_flat_segment : (s : Seg) (p : Point) → s.b.y ≡ s.a.y → sign (s.b.x -ℤ s.a.x) ≡ Plus → is_on (OfSeg s) p ≡ true → IsAtHeight s.a.y p
unfolding is_on
on_flat_segment s p level wide on =
    let k = pos (den_of p) in let w = whole_of p in
    let e = scaled_edge k (edge_of s) in
    let zero : cross (from_to w e.from) (from_to w e.to) ≡ pos 0 = null-zero (cross (from_to w e.from) (from_to w e.to)) (on_line (sign (cross (from_to w e.from) (from_to w e.to))) (sign (dot (from_to w e.from) (from_to w e.to))) on) in
    let flat : (k *ℤ s.a.x -ℤ w.x) *ℤ (k *ℤ s.a.y -ℤ w.y) -ℤ (k *ℤ s.a.y -ℤ w.y) *ℤ (k *ℤ s.b.x -ℤ w.x) ≡ pos 0 = ap (λ z. (k *ℤ s.a.x -ℤ w.x) *ℤ (k *ℤ z -ℤ w.y) -ℤ (k *ℤ s.a.y -ℤ w.y) *ℤ (k *ℤ s.b.x -ℤ w.x)) (sym level) ∙ zero in
    let nonzero = plus-nonzero (k *ℤ (s.b.x -ℤ s.a.x)) (plus-times k (s.b.x -ℤ s.a.x) (den-sign p) ∙ wide) in
    let same_height = zero_other (k *ℤ (s.b.x -ℤ s.a.x)) (w.y -ℤ k *ℤ s.a.y) nonzero (sym (flat_cross k s.a.x s.b.x s.a.y w.x w.y) ∙ flat) in
    flat_height (y_of p).num s.a.y (x_of p).den (y_of p).den (x_den-some p) (same_from_difference w.y (k *ℤ s.a.y) same_height)

segment_rises : (e : Edge) (at : Point) (s : Seg) (t : Sign) → sign (s.b.y -ℤ s.a.y) ≡ t → is_on (OfSeg s) e.from ≡ true → is_on (OfSeg s) e.to ≡ true → spans e at ≡ true → t ≡ Plus
segment_rises e at s Plus is from to h = refl
segment_rises e at s Null is from to h =
    let level = same_from_difference s.b.y s.a.y (null-zero (s.b.y -ℤ s.a.y) is) in
    let wide : sign (s.b.x -ℤ s.a.x) ≡ Plus = subst (λ t. then_sign t (sign (s.b.x -ℤ s.a.x)) ≡ Plus) is (rising_edge s) in
    absurd (spans_flat e at s.a.y (on_flat_segment s e.from level wide from) (on_flat_segment s e.to level wide to) h)
segment_rises e at s Minus is from to h =
    let r : Minus ≡ Plus = subst (λ t. then_sign t (sign (s.b.x -ℤ s.a.x)) ≡ Plus) is (rising_edge s) in cc

piece_rises : (e : Edge) (at : Point) (k : Carrier) → is_on k e.from ≡ true → is_on k e.to ≡ true → spans e at ≡ true → IsTall (piece_of k)
piece_rises e at (OfSeg s) from to h = segment_rises e at s (sign (s.b.y -ℤ s.a.y)) refl from to h
piece_rises e at (Vertical c) from to h = refl
piece_rises e at (Horizontal d) from to h = absurd (spans_flat e at d (on_level d e.from from) (on_level d e.to to) h)

pub spanning_rises : (e : Edge) (at : Point) → spans e at ≡ true → IsTall (piece_of e.carrier)
spanning_rises e at h = piece_rises e at e.carrier e.from_on e.to_on h

-- ---- the order
abbrev piece_at : Edge → Point → plane.Edge
piece_at e at = scaled_edge (pos (y_of at).den) (piece_of e.carrier)

tall_at : (e : Edge) (at : Point) → spans e at ≡ true → IsTall (piece_at e at)
tall_at e at h = minus-sign (pos (y_of at).den) (y_den-sign at) (piece_of e.carrier).to.y (piece_of e.carrier).from.y ∙ spanning_rises e at h

above_sum : (e f g : Edge) (at : Point) → spans e at ≡ true → spans f at ≡ true → spans g at ≡ true →
    agree (order_above (height_of at) (piece_at e at) (piece_at f at)) (order_above (height_of at) (piece_at f at) (piece_at g at)) (order_above (height_of at) (piece_at e at) (piece_at g at)) ≡ true
above_sum e f g at he hf hg = order_above-sum (height_of at) (piece_at e at) (piece_at f at) (piece_at g at) (tall_at e at he) (tall_at f at hf) (tall_at g at hg)

pub above_reverses : (e f : Edge) (at : Point) → just_above_cmp e f at ≡ ordering_reverse (just_above_cmp f e at)
unfolding just_above_cmp
above_reverses e f at = ap ordering_of (order_above-reversed (height_of at) (piece_at f at) (piece_at e at)) ∙ reverses (order_above (height_of at) (piece_at f at) (piece_at e at))

pub above_chains : (e f g : Edge) (at : Point) → spans e at ≡ true → spans f at ≡ true → spans g at ≡ true → just_above_cmp e f at ≡ Less → just_above_cmp f g at ≡ Less → just_above_cmp e g at ≡ Less
unfolding just_above_cmp
above_chains e f g at he hf hg = chains _ _ _ (above_sum e f g at he hf hg)

pub above_ties_alike : (e f g : Edge) (at : Point) → spans e at ≡ true → spans f at ≡ true → spans g at ≡ true → just_above_cmp e f at ≡ Equal → just_above_cmp e g at ≡ just_above_cmp f g at
unfolding just_above_cmp
above_ties_alike e f g at he hf hg = ties_alike _ _ _ (above_sum e f g at he hf hg)

along_is : (e f : Edge) (at : Point) → spans f at ≡ true → is_null (order_above (height_of at) (piece_at e at) (piece_at f at)) ≡ is_along (piece_of e.carrier) (piece_of f.carrier)
along_is e f at hf =
    tie_along (height_of at) (piece_at e at) (piece_at f at) (tall_at f at hf) ∙ along-scaled (pos (y_of at).den) (y_den-sign at) (piece_of e.carrier) (piece_of f.carrier)

null_equal : (s : Sign) → is_null s ≡ true → ordering_of s ≡ Equal
null_equal Null h = refl
null_equal Plus h = absurd (cc h)
null_equal Minus h = absurd (cc h)

pub above_one_line : (e f : Edge) (at : Point) → spans e at ≡ true → spans f at ≡ true → (just_above_cmp e f at ≡ Equal) ↔ (is_along (piece_of e.carrier) (piece_of f.carrier) ≡ true)
unfolding just_above_cmp
above_one_line e f at he hf =
    let s = order_above (height_of at) (piece_at e at) (piece_at f at) in
    (λ h. sym (along_is e f at hf) ∙ ap is_null (equal-null s h), λ h. null_equal s (along_is e f at hf ∙ h))
