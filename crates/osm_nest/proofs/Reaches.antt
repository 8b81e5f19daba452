-- Of two edges that span a height, of which one lies left of an x and the other right of it, the first is left of the other just above that height.
use Rattle.std.proofs.Common.{Bool, [], ap, arith, cond, false, inl, inr, not, pos, refl, subst, sym, true, ℕ, ℤ, ◌*◌, ◌*ℤ◌, ◌+ℤ◌, ◌-ℤ◌, ◌/◌, ◌<ℤ◌, ◌∙◌, ◌∷◌, ◌≡◌, ◌≤◌, ◌≤ℤ◌}
use Rattle.std.specs.Ordering.{is_lt}
use Rattle.std.proofs.Math.Nat.{dvd-mul_left, dvd-mul_right_of_dvd}
use Rattle.std.proofs.lemmas.Int.{ints}
use Prim.Native.Nat.{◌∣◌}
use Rattle.lists.proofs.ListsKit.{and-left, and-right, product_not_below}
use Rattle.plane.specs.Edge as plane
use Rattle.plane.specs.Height.{distance_right, is_in_span, order_above}
use Rattle.plane.specs.Sign.{Minus, Null, Plus, Sign, is_null, is_plus, sign, then_sign}
use Rattle.plane.specs.Vector.{Vector, cross, from_to}
use Rattle.plane.proofs.PlaneKit.{right_either, right_of}
use Rattle.plane.proofs.SignKit.{is_plus-true, lift, plus-is, plus-times, same, says-at, ◌⊞◌, ◌⊟◌, ◌⊠◌}
use Rattle.osm_geom.specs.declared.edge.Edge.{Edge}
use Rattle.osm_geom.specs.declared.point.Point.{Point}
use Rattle.osm_geom.specs.Coordinate.{AtLeast, AtMost}
use Rattle.osm_geom.specs.JustAbove.{just_above_cmp}
use Rattle.osm_geom.specs.Point.{den_of, x_of, y_of}
use Rattle.osm_geom.specs.Span.{spans}
use Rattle.osm_lattice.proofs.LatticeKit.{is_lt-plus}
use Rattle.osm_geom.specs.InPlane.Multiple.{IsWholeAt, edge_times, point_times, product_of_denominators}
use Rattle.osm_geom.proofs.EdgesKit.{den-some, factor, just_above_alike, nat, product-some, spans_alike}
use Rattle.osm_nest.specs.Reach.{IsReach}
use Rattle.osm_nest.proofs.InPlane.{segment_at, whole-at}

-- ---- products
pub more-times : (a b : ℤ) → pos 0 <ℤ a → pos 0 <ℤ b → pos 0 <ℤ (a *ℤ b)
more-times a b h k = (plus-is (a *ℤ b)).0 (plus-times a b ((plus-is a).1 h) ∙ (plus-is b).1 k)

-- ---- in the plane: A, B, C, D are the x of the ends as a point sees them, a, b, c, d their heights above it
distance-parts : (A B C D a b c d : ℤ) → (b -ℤ a) *ℤ (C *ℤ d -ℤ c *ℤ D) -ℤ (A *ℤ b -ℤ a *ℤ B) *ℤ (d -ℤ c) ≡
    (b *ℤ d) *ℤ (C -ℤ A) +ℤ ((b *ℤ (pos 0 -ℤ c)) *ℤ (D -ℤ A) +ℤ (((pos 0 -ℤ a) *ℤ d) *ℤ (C -ℤ B) +ℤ ((pos 0 -ℤ a) *ℤ (pos 0 -ℤ c)) *ℤ (D -ℤ B)))
distance-parts A B C D a b c d =
    let A' = lift A in let B' = lift B in let C' = lift C in let D' = lift D in let a' = lift a in let b' = lift b in let c' = lift c in let d' = lift d in let o = lift (pos 0) in
    same ((b' ⊟ a') ⊠ (C' ⊠ d' ⊟ c' ⊠ D') ⊟ (A' ⊠ b' ⊟ a' ⊠ B') ⊠ (d' ⊟ c'))
    ((b' ⊠ d') ⊠ (C' ⊟ A') ⊞ ((b' ⊠ (o ⊟ c')) ⊠ (D' ⊟ A') ⊞ (((o ⊟ a') ⊠ d') ⊠ (C' ⊟ B') ⊞ ((o ⊟ a') ⊠ (o ⊟ c')) ⊠ (D' ⊟ B')))) (omega arith)

distance-more : (A B C D a b c d : ℤ) → a ≤ℤ pos 0 → pos 0 <ℤ b → c ≤ℤ pos 0 → pos 0 <ℤ d → A <ℤ C → A <ℤ D → B <ℤ C → B <ℤ D →
    pos 0 <ℤ ((b -ℤ a) *ℤ (C *ℤ d -ℤ c *ℤ D) -ℤ (A *ℤ b -ℤ a *ℤ B) *ℤ (d -ℤ c))
distance-more A B C D a b c d la lb lc ld ac ad bc bd =
    let first = more-times (b *ℤ d) (C -ℤ A) (more-times b d lb ld) (omega (arith, ints)) in
    let second = product_not_below (b *ℤ (pos 0 -ℤ c)) (D -ℤ A) (product_not_below b (pos 0 -ℤ c) (omega (arith, ints)) (omega (arith, ints))) (omega (arith, ints)) in
    let third = product_not_below ((pos 0 -ℤ a) *ℤ d) (C -ℤ B) (product_not_below (pos 0 -ℤ a) d (omega (arith, ints)) (omega (arith, ints))) (omega (arith, ints)) in
    let last = product_not_below ((pos 0 -ℤ a) *ℤ (pos 0 -ℤ c)) (D -ℤ B) (product_not_below (pos 0 -ℤ a) (pos 0 -ℤ c) (omega (arith, ints)) (omega (arith, ints))) (omega (arith, ints)) in
    subst (λ z. pos 0 <ℤ z) (sym (distance-parts A B C D a b c d))
    (sum-more ((b *ℤ d) *ℤ (C -ℤ A)) ((b *ℤ (pos 0 -ℤ c)) *ℤ (D -ℤ A)) (((pos 0 -ℤ a) *ℤ d) *ℤ (C -ℤ B)) (((pos 0 -ℤ a) *ℤ (pos 0 -ℤ c)) *ℤ (D -ℤ B)) first second third last)
  where
    sum-more : (x y z w : ℤ) → pos 0 <ℤ x → pos 0 ≤ℤ y → pos 0 ≤ℤ z → pos 0 ≤ℤ w → pos 0 <ℤ (x +ℤ (y +ℤ (z +ℤ w)))
    sum-more x y z w h i j k = omega (arith, ints)

not-above : (z : ℤ) → not (is_plus (sign z)) ≡ true → z ≤ℤ pos 0
not-above z h = by-sign (sign z) refl h
  where
    by-sign : (s : Sign) → sign z ≡ s → not (is_plus s) ≡ true → z ≤ℤ pos 0
    by-sign Plus e n = absurd (cc n)
    by-sign Null e n = let x = says-at Null z e in omega (arith, ints)
    by-sign Minus e n = let x = says-at Minus z e in omega (arith, ints)

-- both ends of an edge lie from one x to another
abbrev IsBetween : ℤ → ℤ → plane.Edge → Type 0
IsBetween low high e = ((low ≤ℤ e.from.x) × (low ≤ℤ e.to.x)) × ((e.from.x ≤ℤ high) × (e.to.x ≤ℤ high))

either-way : (b : Bool) (low high : ℤ) (e : plane.Edge) → IsBetween low high e → IsBetween low high (cond b e (plane.reversed e))
either-way true low high e h = h
either-way false low high e h = ((h.0.1, h.0.0), (h.1.1, h.1.0))

parted-left : (p : Vector) (e f : plane.Edge) (low high low' high' : ℤ) → is_in_span p e ≡ true → is_in_span p f ≡ true → IsBetween low high e → IsBetween low' high' f → high <ℤ low' →
    order_above p e f ≡ Plus
parted-left p e f low high low' high' se sf he hf apart =
    let a = e.from.y -ℤ p.y in let b = e.to.y -ℤ p.y in let c = f.from.y -ℤ p.y in let d = f.to.y -ℤ p.y in
    let A = e.from.x -ℤ p.x in let B = e.to.x -ℤ p.x in let C = f.from.x -ℤ p.x in let D = f.to.x -ℤ p.x in
    let la = not-above a (and-left (not (is_plus (sign a))) (is_plus (sign b)) se) in
    let lb = (plus-is b).0 (is_plus-true (sign b) (and-right (not (is_plus (sign a))) (is_plus (sign b)) se)) in
    let lc = not-above c (and-left (not (is_plus (sign c))) (is_plus (sign d)) sf) in
    let ld = (plus-is d).0 (is_plus-true (sign d) (and-right (not (is_plus (sign c))) (is_plus (sign d)) sf)) in
    let e1 = he.1.0 in let e2 = he.1.1 in let f1 = hf.0.0 in let f2 = hf.0.1 in
    let more = distance-more A B C D a b c d la lb lc ld (omega (arith, ints)) (omega (arith, ints)) (omega (arith, ints)) (omega (arith, ints)) in
    let tall-e : b -ℤ a ≡ e.to.y -ℤ e.from.y = omega (arith, ints) in
    let tall-f : d -ℤ c ≡ f.to.y -ℤ f.from.y = omega (arith, ints) in
    let first = subst (λ t. pos 0 <ℤ (t *ℤ (C *ℤ d -ℤ c *ℤ D) -ℤ (A *ℤ b -ℤ a *ℤ B) *ℤ (d -ℤ c))) tall-e more in
    let both = subst (λ t. pos 0 <ℤ ((e.to.y -ℤ e.from.y) *ℤ (C *ℤ d -ℤ c *ℤ D) -ℤ (A *ℤ b -ℤ a *ℤ B) *ℤ t)) tall-f first in
    ap (λ s. then_sign s (sign (cross (from_to f.from f.to) (from_to e.from e.to)))) ((plus-is (cross (distance_right p e) (distance_right p f))).1 both)

-- ---- a reach in the multiplied plane
east-parts : (m x y : ℕ) (a n : ℤ) → pos (m * (x * y)) *ℤ n -ℤ pos m *ℤ (a *ℤ pos y) ≡ pos (m * y) *ℤ (n *ℤ pos x -ℤ a)
east-parts m x y a n = same (nat (m * (x * y)) ⊠ lift n ⊟ nat m ⊠ (lift a ⊠ nat y)) (nat (m * y) ⊠ (lift n ⊠ nat x ⊟ lift a)) (omega arith)

west-parts : (m x y : ℕ) (a n : ℤ) → pos m *ℤ (a *ℤ pos y) -ℤ pos (m * (x * y)) *ℤ n ≡ pos (m * y) *ℤ (a -ℤ n *ℤ pos x)
west-parts m x y a n = same (nat m ⊠ (lift a ⊠ nat y) ⊟ nat (m * (x * y)) ⊠ lift n) (nat (m * y) ⊠ (lift a ⊟ lift n ⊠ nat x)) (omega arith)

at-most-times : (k : ℕ) (p : Point) (n : ℤ) → den_of p ∣ k → AtMost (x_of p) n → (point_times k p).x ≤ℤ (pos k *ℤ n)
at-most-times k p n h most =
    let m = k / den_of p in let x = (x_of p).den in let y = (y_of p).den in let a = (x_of p).num in
    let some = product_not_below (pos (m * y)) (n *ℤ pos x -ℤ a) (omega (arith, ints)) (omega (arith, ints)) in
    let here : pos 0 ≤ℤ (pos (m * (x * y)) *ℤ n -ℤ pos m *ℤ (a *ℤ pos y)) = subst (λ z. pos 0 ≤ℤ z) (sym (east-parts m x y a n)) some in
    let whole : pos 0 ≤ℤ (pos k *ℤ n -ℤ pos m *ℤ (a *ℤ pos y)) = subst (λ w. pos 0 ≤ℤ (pos w *ℤ n -ℤ pos m *ℤ (a *ℤ pos y))) (factor k (den_of p) h) here in
    omega (arith, ints)

at-least-times : (k : ℕ) (p : Point) (n : ℤ) → den_of p ∣ k → AtLeast n (x_of p) → (pos k *ℤ n) ≤ℤ (point_times k p).x
at-least-times k p n h least =
    let m = k / den_of p in let x = (x_of p).den in let y = (y_of p).den in let a = (x_of p).num in
    let some = product_not_below (pos (m * y)) (a -ℤ n *ℤ pos x) (omega (arith, ints)) (omega (arith, ints)) in
    let here : pos 0 ≤ℤ (pos m *ℤ (a *ℤ pos y) -ℤ pos (m * (x * y)) *ℤ n) = subst (λ z. pos 0 ≤ℤ z) (sym (west-parts m x y a n)) some in
    let whole : pos 0 ≤ℤ (pos m *ℤ (a *ℤ pos y) -ℤ pos k *ℤ n) = subst (λ w. pos 0 ≤ℤ (pos m *ℤ (a *ℤ pos y) -ℤ pos w *ℤ n)) (factor k (den_of p) h) here in
    omega (arith, ints)

reach-times : (k : ℕ) (e : Edge) (west east : ℤ) → IsWholeAt k e → IsReach west east e → IsBetween (pos k *ℤ west) (pos k *ℤ east) (segment_at k e)
reach-times k e west east w is =
    either-way (plane.is_rising (edge_times k e)) (pos k *ℤ west) (pos k *ℤ east) (edge_times k e) (
      (at-least-times k e.from west w.first is.0.0, at-least-times k e.to west w.second is.0.1),
      (at-most-times k e.from east w.first is.1.0, at-most-times k e.to east w.second is.1.1),
    )

taken-out : (k : ℕ) (y z : ℤ) → pos k *ℤ (y -ℤ z) ≡ pos k *ℤ y -ℤ pos k *ℤ z
taken-out k y z = same (nat k ⊠ (lift y ⊟ lift z)) (nat k ⊠ lift y ⊟ nat k ⊠ lift z) (omega arith)

further-times : (k : ℕ) (y z : ℤ) → 1 ≤ k → z <ℤ y → (pos k *ℤ z) <ℤ (pos k *ℤ y)
further-times k y z some h = let m = subst (λ w. pos 0 <ℤ w) (taken-out k y z) (more-times (pos k) (y -ℤ z) (omega (arith, ints)) (omega (arith, ints))) in omega (arith, ints)

module _ (f g : Edge) (at : Point) where
  -- a number by which the points of both and the height are whole
  abbrev k : ℕ
  k = product_of_denominators (f ∷ g ∷ []) * den_of at

  both-whole : (e : Edge) → IsWholeAt (product_of_denominators (f ∷ g ∷ [])) e → IsWholeAt k e
  both-whole e w = record {
    some = product-some (product_of_denominators (f ∷ g ∷ [])) (den_of at) w.some (den-some at);
    first = dvd-mul_right_of_dvd (den_of e.from) w.first (den_of at);
    second = dvd-mul_right_of_dvd (den_of e.to) w.second (den_of at);
  }

  whole-f : IsWholeAt k f
  whole-f = both-whole f (whole-at (f ∷ g ∷ []) f (inl refl))

  whole-g : IsWholeAt k g
  whole-g = both-whole g (whole-at (f ∷ g ∷ []) g (inr (inl refl)))

  in-at : den_of at ∣ k
  in-at = dvd-mul_left (den_of at) (product_of_denominators (f ∷ g ∷ []))

  abbrev p : Vector
  p = point_times k at

  lt-is : (x y : Edge) → IsWholeAt k x → IsWholeAt k y → is_lt (just_above_cmp x y at) ≡ right_of p (segment_at k x) (segment_at k y)
  lt-is x y w v = ap is_lt (just_above_alike k x y at w v in-at) ∙ is_lt-plus (order_above p (segment_at k x) (segment_at k y))

  module _ (sf : spans f at ≡ true) (sg : spans g at ≡ true) (west east west' east' : ℤ) (rf : IsReach west east f) (rg : IsReach west' east' g) (apart : east <ℤ west') where
    above : order_above p (segment_at k f) (segment_at k g) ≡ Plus
    above =
        parted-left p (segment_at k f) (segment_at k g) (pos k *ℤ west) (pos k *ℤ east) (pos k *ℤ west') (pos k *ℤ east')
        (sym (spans_alike k f at whole-f in-at) ∙ sf) (sym (spans_alike k g at whole-g in-at) ∙ sg) (reach-times k f west east whole-f rf) (reach-times k g west' east' whole-g rg) (further-times k west' east whole-f.some apart)

    pub left-by-reach : is_lt (just_above_cmp f g at) ≡ true
    left-by-reach = lt-is f g whole-f whole-g ∙ ap is_plus above

    pub right-by-reach : is_lt (just_above_cmp g f at) ≡ false
    right-by-reach =
        lt-is g f whole-g whole-f ∙ turned (right_of p (segment_at k f) (segment_at k g)) (right_of p (segment_at k g) (segment_at k f)) (ap is_plus above)
        (right_either p (segment_at k f) (segment_at k g) (ap (λ s. not (is_null s)) above))
      where
        turned : (a b : Bool) → a ≡ true → a ≡ not b → b ≡ false
        turned a true h e = absurd (cc (sym h ∙ e))
        turned a false h e = refl
