-- The anchor of a ring is one of the two edges at its least point: the one that leaves it, or the one before.
use Rattle.std.proofs.Common.{◌≡◌, ◌≢◌, ◌⊎◌, inl, inr, Bool, true, false, ℕ, ◌+◌, ◌-◌, ◌<◌, List, length, get_or, All, cond, refl, sym, ap, subst, ◌∙◌, arith, ⊎_elim}
use Rattle.std.specs.declared.cmp.Ordering.TheVariants.{Less}
use Rattle.std.proofs.lemmas.Bool.{cases_lt}
use Rattle.std.proofs.lemmas.List.{get_or_default}
use Rattle.plane.specs.Edge as plane
use Rattle.plane.specs.Edge.{IsRisingEdge}
use Rattle.plane.specs.Order.{order}
use Rattle.plane.specs.Sign.{Minus, Null, Plus, Sign}
use Rattle.plane.proofs.PlaneKit.{order-null}
use Rattle.plane_lists.specs.Lists.Ring.{IsAnchor}
use Rattle.plane_lists.proofs.WindingKit.{some-anchor}
use Rattle.lists.specs.Member.{In}
use Rattle.lists.proofs.ListsKit.{at-in, in-at, in-map, in-map-out, item-in}
use Rattle.osm_lattice.specs.OrderLaws.{ordering_of}
use Rattle.osm_geom.specs.declared.edge.Edge.{Edge}
use Rattle.osm_geom.specs.Point.{point_cmp}
use Rattle.osm_geom.specs.InPlane.Multiple.{IsWholeAt, edge_times, point_times, product_of_denominators}
use Rattle.osm_geom.proofs.EdgesKit.{order_is, same_is_same, segment_rises}
use Rattle.osm_rings.specs.Ring.{IsRing}
use Rattle.osm_nest.specs.Leftmost.{IsPlaceBefore, comes_first}
use Rattle.osm_nest.specs.Outer.{AreConflictFree, IsAnchorOf}
use Rattle.osm_nest.proofs.InPlane.{segment_at, whole-at}
use Rattle.osm_nest.proofs.Leftmost.{along, first-of-two, segments_along}
use Rattle.osm_nest.proofs.RingAnchors.{anchor-of, plain-along}

neither : (s : Sign) → s ≢ Plus → s ≢ Minus → s ≡ Null
neither Plus h k = absurd (h refl)
neither Null h k = refl
neither Minus h k = absurd (k refl)

module _ (es : List Edge) (ring : IsRing es) (n : ℕ) (inside : n < length es) (least : All (λ e. point_cmp e.from (get_or es n e).from ≢ Less) es) where
  abbrev k : ℕ
  k = product_of_denominators es

  abbrev at : ℕ → Edge → Edge
  at i d = get_or es i d

  whole : (i : ℕ) (d : Edge) → i < length es → IsWholeAt k (at i d)
  whole i d h = whole-at es (at i d) (at-in es i d h)

  -- no edge leaves a point before the least
  not-before : (i : ℕ) (d : Edge) → i < length es → order (point_times k (at i d).from) (point_times k (at n d).from) ≢ Plus
  unfolding point_cmp
  not-before i d h before =
      let w = whole i d h in let v = whole n d inside in
      let less : point_cmp (at i d).from (at n d).from ≡ Less = ap ordering_of (order_is k (at i d).from (at n d).from w.some w.first v.first ∙ before) in
      least i d h (subst (λ (x : Edge). point_cmp (at i d).from x.from ≡ Less) (get_or_default es n d (at i d) inside) less)

  -- an edge ends where the next one begins
  next-of : (i : ℕ) (d : Edge) → i < length es → (j : ℕ) × (j < length es) × ((at i d).to ≡ (at j d).from) × ((i + 1 ≡ j) ⊎ ((i + 1 ≡ length es) × (j ≡ 0)))
  next-of i d h = ⊎_elim
      (λ l. (i + 1, l, ring.chained i d l, inl refl))
      (λ l.
      let end : length es - 1 ≡ i = omega arith in
      (0, omega arith, subst (λ m. (at m d).to ≡ (at 0 d).from) end (ring.closed d), inr (omega arith, refl)))
      (cases_lt (i + 1) (length es))

  one-start : (i j : ℕ) (d : Edge) → i < length es → j < length es → (at i d).from ≡ (at j d).from → i ≡ j
  one-start i j d h l e = ⊎_elim
      (λ m. absurd (ring.simple i j d m l e))
      (λ m. ⊎_elim
      (λ o. absurd (ring.simple j i d o h (sym e)))
      (λ o. let same : i ≡ j = omega arith in same)
      (cases_lt j i))
      (cases_lt i j)

  -- the lower end of the edge that leaves the least point is that point
  rises : (d : Edge) → (b : Bool) → plane.is_rising (edge_times k (at n d)) ≡ b → (segment_at k (at n d)).from ≡ point_times k (at n d).from
  rises d true h = ap (λ b. (cond b (edge_times k (at n d)) (plane.reversed (edge_times k (at n d)))).from) h
  rises d false h =
      let next = next-of n d inside in
      let up : order (point_times k (at n d).to) (point_times k (at n d).from) ≡ Plus = subst (λ b. IsRisingEdge (cond b (edge_times k (at n d)) (plane.reversed (edge_times k (at n d))))) h (segment_rises k (at n d) (whole n d inside)) in
      absurd (not-before next.0 d next.1 (subst (λ p. order (point_times k p) (point_times k (at n d).from) ≡ Plus) next.2 up))

  module _ (p : ℕ) (before : IsPlaceBefore (length es) n p) (m : plane.Edge) (a : IsAnchor m (segments_along es)) where
    -- the anchor begins at the least point
    begins : (d : Edge) → order m.from (point_times k (at n d).from) ≢ Plus → m.from ≡ point_times k (at n d).from
    begins d early =
        let late = a.least (segment_at k (at n d)) (in-map (along es) es (at n d) (at-in es n d inside)) in
        order-null m.from (point_times k (at n d).from)
        (neither (order m.from (point_times k (at n d).from)) early (λ e. late (ap (order m.from) (rises d (plane.is_rising (edge_times k (at n d))) refl) ∙ e)))

    -- an edge along it leaves that point or enters it
    leaving : (i : ℕ) (d : Edge) → i < length es → m.from ≡ point_times k (at i d).from → n ≡ i
    leaving i d h is =
        let w = whole i d h in let v = whole n d inside in
        let same : point_times k (at n d).from ≡ point_times k (at i d).from = sym (begins d (subst (λ q. order q (point_times k (at n d).from) ≢ Plus) (sym is) (not-before i d h))) ∙ is in
        one-start n i d inside h (same_is_same k (at n d).from (at i d).from v.some v.first w.first same)

    back : (i j : ℕ) → n ≡ j → i < length es → (i + 1 ≡ j) ⊎ ((i + 1 ≡ length es) × (j ≡ 0)) → p ≡ i
    back i j e h (inl next) = let s = before.later (omega arith) in omega arith
    back i j e h (inr (end, zero)) = let s = before.first (omega arith) in omega arith

    entering : (i : ℕ) (d : Edge) → i < length es → m.from ≡ point_times k (at i d).to → p ≡ i
    entering i d h is =
        let next = next-of i d h in
        back i next.0 (leaving next.0 d next.1 (is ∙ ap (point_times k) next.2)) h next.3

    which : (i : ℕ) (d : Edge) → i < length es → (b : Bool) → plane.is_rising (edge_times k (at i d)) ≡ b → along es (at i d) ≡ m → (along es (at n d) ≡ m) ⊎ (along es (at p d) ≡ m)
    which i d h true up is =
        let from : m.from ≡ point_times k (at i d).from = ap (λ (s : plane.Edge). s.from) (sym is) ∙ ap (λ b. (cond b (edge_times k (at i d)) (plane.reversed (edge_times k (at i d)))).from) up in
        inl (ap (λ x. along es (at x d)) (leaving i d h from) ∙ is)
    which i d h false up is =
        let from : m.from ≡ point_times k (at i d).to = ap (λ (s : plane.Edge). s.from) (sym is) ∙ ap (λ b. (cond b (edge_times k (at i d)) (plane.reversed (edge_times k (at i d)))).from) up in
        inr (ap (λ x. along es (at x d)) (entering i d h from) ∙ is)

    pub one-of-two : (d : Edge) → (along es (at n d) ≡ m) ⊎ (along es (at p d) ≡ m)
    one-of-two d =
        let x = in-map-out (along es) es m a.member in
        let i = in-at x.0 es x.1 in
        which i.0 d i.1 (plane.is_rising (edge_times k (at i.0 d))) refl (ap (along es) (i.2 d) ∙ sym x.2)

pub least-anchor : (es : List Edge) → AreConflictFree es → IsRing es → (n p : ℕ) → n < length es → All (λ e. point_cmp e.from (get_or es n e).from ≢ Less) es → IsPlaceBefore (length es) n p →
    (e f x : Edge) → e ≡ get_or es n e → f ≡ get_or es p f → x ≡ cond (comes_first f e) f e → IsAnchorOf x es
least-anchor es clear ring n p inside least before e f x e_is f_is x_is =
    let i = item-in es n e inside e_is in
    let j = item-in es p f before.inside f_is in
    let m = some-anchor (segments_along es) (along es e) (in-map (along es) es e i) (plain-along es clear) in
    let read_e : get_or es n e ≡ e = sym e_is in
    let read_f : get_or es p e ≡ f = get_or_default es p e f before.inside ∙ sym f_is in
    let one : (along es e ≡ m.0) ⊎ (along es f ≡ m.0) = ⊎_elim (λ s. inl (ap (along es) (sym read_e) ∙ s)) (λ s. inr (ap (along es) (sym read_f) ∙ s)) (one-of-two es ring n inside least p before m.0 m.1 e) in
    let found : along es (cond (comes_first f e) f e) ≡ m.0 = first-of-two es f e j i m.0 m.1 one (comes_first f e) refl in
    subst (λ y. IsAnchorOf y es) (sym x_is)
    (anchor-of es clear (cond (comes_first f e) f e) (either (comes_first f e) j i) (subst (λ s. IsAnchor s (segments_along es)) (sym found) m.1))
  where
    either : (b : Bool) → In f es → In e es → In (cond b f e) es
    either true j i = j
    either false j i = i
