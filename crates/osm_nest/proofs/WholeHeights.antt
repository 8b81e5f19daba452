-- Whole heights, by the whole numbers next to the ends of edges.
use Rattle.std.proofs.Common.{Bool, zero, suc, FitsSigned, w32, negsuc, ⊎_elim, ◌<◌, ap, arith, cond, false, not, pos, refl, subst, sym, true, unsigned_abs, ℕ, ℤ, ◌*◌, ◌*ℤ◌, ◌+ℤ◌, ◌-ℤ◌, ◌<ℤ◌, ◌&&◌, ◌∙◌, ◌≡◌, ◌≤◌, ◌≤ℤ◌}
use Rattle.std.proofs.lemmas.Int.{ints}
use Rattle.std.proofs.lemmas.Bool.{cases_lt}
use Rattle.plane.specs.Sign.{Minus, Null, Plus, Sign, is_minus, is_plus, sign}
use Rattle.plane.proofs.SignKit.{lift, minus-is, plus-is, same, says-at, ◌⊞◌, ◌⊟◌, ◌⊠◌}
use Rattle.osm_lattice.proofs.LatticeKit.{signed}
use Rattle.osm_geom.specs.declared.edge.Edge.{Edge}
use Rattle.osm_geom.specs.declared.point.Point.{Point}
use Rattle.osm_geom.specs.Coordinate.{ceiling_of}
use Rattle.osm_geom.specs.Edge.{runs_up}
use Rattle.osm_geom.specs.Point.{Fraction, IsInWorld, point_cmp, whole, x_of, y_of}
use Rattle.osm_geom.specs.RatioOrder.{fraction_cmp}
use Rattle.std.specs.declared.cmp.Ordering.{Ordering}
use Rattle.std.specs.declared.cmp.Ordering.TheVariants.{Less, Equal, Greater}
use Rattle.std.specs.Ordering.{int_cmp, is_lt, ordering_then}
use Rattle.osm_geom.specs.Span.{height_order, lower_end, spans, upper_end}
use Rattle.osm_geom.proofs.GeometryKit.{at_most_more, ceiling-from, ceiling-is, point_cmp_is, y_den-some}
use Rattle.osm_nest.specs.Heights.{AreHeights}
use Rattle.osm_nest.proofs.Reaches.{more-times}
use Rattle.lists.proofs.ListsKit.{product_not_below}

-- ---- ceilings
pub ceiling_whole : (n : ℤ) → n ≡ ceiling_of (whole n)
ceiling_whole n =
    let f = whole n in let some : 1 ≤ f.den = omega arith in
    let most = ceiling-is f some in
    let least = ceiling-from n f some (omega (arith, ints)) in
    omega (arith, ints)

pub ceiling_within : (p : Point) → IsInWorld p → unsigned_abs (ceiling_of (y_of p)) ≤ 900_000_000
ceiling_within p world = within (y_of p) (y_den-some p) world.1
  where
    -- no whole number below those is at least the fraction
    low : (f : Fraction) → 1 ≤ f.den → unsigned_abs f.num ≤ 900_000_000 * f.den → ceiling_of f ≤ℤ negsuc 900_000_000 → ⊥
    low f some small h = let most = at_most_more (ceiling_of f) (negsuc 900_000_000) f h (ceiling-is f some) in omega (arith, signed)

    within : (f : Fraction) → 1 ≤ f.den → unsigned_abs f.num ≤ 900_000_000 * f.den → unsigned_abs (ceiling_of f) ≤ 900_000_000
    within f some small =
        let high = ceiling-from (pos 900_000_000) f some (omega (arith, signed)) in
        ⊎_elim (λ (in-range : unsigned_abs (ceiling_of f) < 900_000_001). omega arith)
        (λ (out : 900_000_001 ≤ unsigned_abs (ceiling_of f)). absurd (low f some small (omega (arith, signed)))) (cases_lt (unsigned_abs (ceiling_of f)) 900_000_001)

pub fits_narrow : (z : ℤ) → unsigned_abs z ≤ 900_000_000 → FitsSigned w32 z
fits_narrow z h = omega (arith, signed)

-- a whole number below it is less than the fraction
below-ceiling : (h : ℤ) (f : Fraction) → 1 ≤ f.den → h <ℤ ceiling_of f → (h *ℤ pos f.den) <ℤ f.num
below-ceiling h f some l = by (h *ℤ pos f.den) f.num (λ most. let least = ceiling-from h f some most in omega (arith, ints))
  where
    by : (a b : ℤ) → (b ≤ℤ a → ⊥) → a <ℤ b
    by a b never = by-sign (sign (b -ℤ a)) refl
      where
        by-sign : (s : Sign) → sign (b -ℤ a) ≡ s → a <ℤ b
        by-sign Plus e = let x = (plus-is (b -ℤ a)).0 e in omega (arith, ints)
        by-sign Null e = absurd (never (let x = says-at Null (b -ℤ a) e in omega (arith, ints)))
        by-sign Minus e = absurd (never (let x = says-at Minus (b -ℤ a) e in omega (arith, ints)))

-- ---- the order of points by whole heights
crossed : (a b m : ℤ) (c d : ℕ) → (b -ℤ m *ℤ pos d) *ℤ pos c +ℤ (m *ℤ pos c -ℤ a) *ℤ pos d ≡ b *ℤ pos c -ℤ a *ℤ pos d
crossed a b m c d = let a' = lift a in let b' = lift b in let m' = lift m in let c' = lift (pos c) in let d' = lift (pos d) in
    same ((b' ⊟ m' ⊠ d') ⊠ c' ⊞ (m' ⊠ c' ⊟ a') ⊠ d') (b' ⊠ c' ⊟ a' ⊠ d') (omega arith)

not-less : (a b : ℤ) (x : Ordering) → b <ℤ a → (o : Ordering) → int_cmp a b ≡ o → is_lt (ordering_then o x) ≡ false
not-less a b x h Less e = absurd (grind (arith, ints))
not-less a b x h Equal e = absurd (grind (arith, ints))
not-less a b x h Greater e = refl

comes-less : (a b : ℤ) (x : Ordering) → a <ℤ b → (o : Ordering) → int_cmp a b ≡ o → is_lt (ordering_then o x) ≡ true
comes-less a b x h Less e = refl
comes-less a b x h Equal e = absurd (grind (arith, ints))
comes-less a b x h Greater e = absurd (grind (arith, ints))

-- the heights themselves differ where the whole ones do
height-below : (p q : Point) (m n : ℤ) → m ≡ ceiling_of (y_of p) → n ≡ ceiling_of (y_of q) → m <ℤ n → ((y_of p).num *ℤ pos (y_of q).den) <ℤ ((y_of q).num *ℤ pos (y_of p).den)
height-below p q m n is is' l =
    let f = y_of p in let g = y_of q in
    let most = at_most_more (ceiling_of f) m f (omega (arith, ints)) (ceiling-is f (y_den-some p)) in
    let below = below-ceiling m g (y_den-some q) (omega (arith, ints)) in
    let some = y_den-some p in
    let first = more-times (g.num -ℤ m *ℤ pos g.den) (pos f.den) (omega (arith, ints)) (omega (arith, ints)) in
    let second = product_not_below (m *ℤ pos f.den -ℤ f.num) (pos g.den) (omega (arith, ints)) (omega (arith, ints)) in
    let sum = crossed f.num g.num m f.den g.den in
    omega (arith, ints)

-- a point comes no later than one of which the whole height is greater
pub rises-by-heights : (p q : Point) (m n : ℤ) → m ≡ ceiling_of (y_of p) → n ≡ ceiling_of (y_of q) → m <ℤ n → is_lt (point_cmp q p) ≡ false
rises-by-heights p q m n is is' l =
    let f = y_of p in let g = y_of q in
    ap is_lt (sym (point_cmp_is q p)) ∙ not-less (g.num *ℤ pos f.den) (f.num *ℤ pos g.den) (fraction_cmp (x_of q) (x_of p)) (height-below p q m n is is' l) (int_cmp (g.num *ℤ pos f.den) (f.num *ℤ pos g.den)) refl

-- and it comes before that one
pub before-by-heights : (p q : Point) (m n : ℤ) → m ≡ ceiling_of (y_of p) → n ≡ ceiling_of (y_of q) → m <ℤ n → is_lt (point_cmp p q) ≡ true
before-by-heights p q m n is is' l =
    let f = y_of p in let g = y_of q in
    ap is_lt (sym (point_cmp_is p q)) ∙ comes-less (f.num *ℤ pos g.den) (g.num *ℤ pos f.den) (fraction_cmp (x_of p) (x_of q)) (height-below p q m n is is' l) (int_cmp (f.num *ℤ pos g.den) (g.num *ℤ pos f.den)) refl

lower-by : (e : Edge) (b : Bool) → IsInWorld (cond b e.from e.to)
lower-by e true = e.from_in
lower-by e false = e.to_in

pub lower_in : (e : Edge) → IsInWorld (lower_end e)
lower_in e = lower-by e (runs_up e)

upper-by : (e : Edge) (b : Bool) → IsInWorld (cond b e.to e.from)
upper-by e true = e.to_in
upper-by e false = e.from_in

pub upper_in : (e : Edge) → IsInWorld (upper_end e)
upper_in e = upper-by e (runs_up e)

-- ---- a whole height beside the ends of an edge
module _ (p at : Point) (h : ℤ) (is : y_of at ≡ whole h) where
  from-below : height_order p at ≡ sign (h *ℤ pos (y_of p).den -ℤ (y_of p).num *ℤ pos 1)
  from-below = ap (λ (f : Fraction). sign (f.num *ℤ pos (y_of p).den -ℤ (y_of p).num *ℤ pos f.den)) is

  from-above : height_order at p ≡ sign ((y_of p).num *ℤ pos 1 -ℤ h *ℤ pos (y_of p).den)
  from-above = ap (λ (f : Fraction). sign ((y_of p).num *ℤ pos f.den -ℤ f.num *ℤ pos (y_of p).den)) is

  pub begun : ceiling_of (y_of p) ≤ℤ h → not (is_minus (height_order p at)) ≡ true
  begun l =
      let most = at_most_more (ceiling_of (y_of p)) h (y_of p) l (ceiling-is (y_of p) (y_den-some p)) in
      ap (λ s. not (is_minus s)) from-below ∙ not-below (h *ℤ pos (y_of p).den -ℤ (y_of p).num *ℤ pos 1) (omega (arith, ints))
    where
      not-below : (z : ℤ) → pos 0 ≤ℤ z → not (is_minus (sign z)) ≡ true
      not-below (pos zero) h = refl
      not-below (pos (suc n)) h = refl
      not-below (negsuc n) h = absurd (omega (arith, ints))

  less : h <ℤ ceiling_of (y_of p) → (h *ℤ pos (y_of p).den) <ℤ (y_of p).num
  less l = below-ceiling h (y_of p) (y_den-some p) l

  pub not-begun : h <ℤ ceiling_of (y_of p) → not (is_minus (height_order p at)) ≡ false
  not-begun l = let k = less l in ap (λ s. not (is_minus s)) (from-below ∙ (minus-is (h *ℤ pos (y_of p).den -ℤ (y_of p).num *ℤ pos 1)).1 (omega (arith, ints)))

  pub not-ended : h <ℤ ceiling_of (y_of p) → is_plus (height_order at p) ≡ true
  not-ended l = let k = less l in ap is_plus (from-above ∙ (plus-is ((y_of p).num *ℤ pos 1 -ℤ h *ℤ pos (y_of p).den)).1 (omega (arith, ints)))

  pub ended : ceiling_of (y_of p) ≤ℤ h → is_plus (height_order at p) ≡ false
  ended l =
      let most = at_most_more (ceiling_of (y_of p)) h (y_of p) l (ceiling-is (y_of p) (y_den-some p)) in
      ap is_plus from-above ∙ not-more ((y_of p).num *ℤ pos 1 -ℤ h *ℤ pos (y_of p).den) (omega (arith, ints))
    where
      not-more : (z : ℤ) → z ≤ℤ pos 0 → is_plus (sign z) ≡ false
      not-more (pos zero) h = refl
      not-more (pos (suc n)) h = absurd (omega (arith, ints))
      not-more (negsuc n) h = refl

-- ---- an edge at a whole height
module _ (e : Edge) (bottom top : ℤ) (are : AreHeights bottom top e) (at : Point) (h : ℤ) (is : y_of at ≡ whole h) where
  -- by its ends
  by-ends : (b c : Bool) → not (is_minus (height_order (lower_end e) at)) ≡ b → is_plus (height_order at (upper_end e)) ≡ c → spans e at ≡ (b && c)
  unfolding spans
  by-ends b c low high = ap (λ x. x && is_plus (height_order at (upper_end e))) low ∙ ap (λ x. b && x) high

  pub spans-between : bottom ≤ℤ h → h <ℤ top → spans e at ≡ true
  spans-between l g = by-ends true true (begun (lower_end e) at h is (subst (λ z. z ≤ℤ h) are.0 l)) (not-ended (upper_end e) at h is (subst (λ z. h <ℤ z) are.1 g))

  pub spans-below : h <ℤ bottom → spans e at ≡ false
  spans-below l = by-ends false (is_plus (height_order at (upper_end e))) (not-begun (lower_end e) at h is (subst (λ z. h <ℤ z) are.0 l)) refl

  pub spans-over : bottom ≤ℤ h → top ≤ℤ h → spans e at ≡ false
  spans-over l g = by-ends true false (begun (lower_end e) at h is (subst (λ z. z ≤ℤ h) are.0 l)) (ended (upper_end e) at h is (subst (λ z. z ≤ℤ h) are.1 g))
