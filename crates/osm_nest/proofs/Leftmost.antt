-- The anchor of a list comes first of its edges.
use Rattle.std.proofs.Common.{◌≡◌, ◌⊎◌, inl, inr, Bool, true, false, not, ◌&&◌, ◌||◌, ℕ, ◌*ℤ◌, ◌-ℤ◌, ℤ, pos, List, map, refl, sym, ap, subst, ◌∙◌, arith, cond}
use Rattle.std.specs.Ordering.{is_lt}
use Rattle.std.proofs.lemmas.Int.{ints}
use Rattle.plane.specs.Edge as plane
use Rattle.plane.specs.Edge.{IsRisingEdge, same_edge}
use Rattle.plane.specs.Height.{is_in_span, order_above}
use Rattle.plane.specs.Order.{order}
use Rattle.plane.specs.Sign.{Minus, Null, Plus, Sign, is_plus, negated, sign, then_sign}
use Rattle.plane.specs.Vector.{Vector, cross, from_to, orient}
use Rattle.plane.proofs.PlaneKit.{same_edge-true, order-null, order-reversed, cross-agree, cross-from-here, cross-negated, cross-self}
use Rattle.plane.proofs.SignKit.{agree, all, all-out, all4-out, imp, imp-out, same_bool, same_bool-true, self-diff, times}
use Rattle.lists.specs.Member.{In}
use Rattle.plane_lists.specs.Lists.Ring.{IsAnchor}
use Rattle.lists.proofs.ListsKit.{in-map, into-filter}
use Rattle.osm_geom.specs.declared.edge.Edge.{Edge}
use Rattle.osm_geom.specs.JustAbove.{just_above_cmp}
use Rattle.osm_lattice.specs.OrderLaws.{ordering_of}
use Rattle.osm_geom.specs.Span.{lower_end, spans}
use Rattle.osm_geom.specs.InPlane.Multiple.{IsWholeAt, product_of_denominators}
use Rattle.osm_geom.proofs.EdgesKit.{segment_rises}
use Rattle.osm_nest.specs.Leftmost.{comes_first, first_of, forks_left}
use Rattle.osm_nest.proofs.InPlane.{above-at, order-at, segment_at, spans-at, whole-at}

-- ---- two segments from one point: which runs to the left
abbrev left_1 : Sign → Sign → Sign → Sign → Bool
left_1 wx wy dx dy =
    all λ k. imp (agree k (times dy wx) (times dx wy)) λ _. imp (is_plus (then_sign wy wx)) λ _. imp (is_plus (then_sign dy dx)) λ _.
    same_bool (is_plus k) (is_plus wy && (not (is_plus dy) || is_plus k))

left-by : (d w : Vector) → then_sign (sign d.y) (sign d.x) ≡ Plus → then_sign (sign w.y) (sign w.x) ≡ Plus → is_plus (sign (cross d w)) ≡ (is_plus (sign w.y) && (not (is_plus (sign d.y)) || is_plus (sign (cross d w))))
left-by d w hd hw =
    let dy = sign d.y in let dx = sign d.x in let wy = sign w.y in let wx = sign w.x in
    let c = all-out (λ k. imp (agree k (times dy wx) (times dx wy)) λ _. imp (is_plus (then_sign wy wx)) λ _. imp (is_plus (then_sign dy dx)) λ _.
    same_bool (is_plus k) (is_plus wy && (not (is_plus dy) || is_plus k))) (all4-out left_1 refl wx wy dx dy) (sign (cross d w)) in
    same_bool-true _ _ (imp-out _ _ (imp-out _ _ (imp-out _ _ c (cross-agree d w)) (ap is_plus hw)) (ap is_plus hd))

-- a segment spans its lower end unless it is horizontal
own-span : (s : plane.Edge) → is_in_span s.from s ≡ is_plus (sign (s.to.y -ℤ s.from.y))
own-span s = ap (λ o. not (is_plus o) && is_plus (sign (s.to.y -ℤ s.from.y))) (self-diff s.from.y)

zero-cross : (h k d c : ℤ) → d ≡ pos 0 → c ≡ pos 0 → sign (h *ℤ c -ℤ d *ℤ k) ≡ Null
zero-cross h k d c e f = ap (λ z. sign (h *ℤ z -ℤ d *ℤ k)) f ∙ ap (λ z. sign (h *ℤ pos 0 -ℤ z *ℤ k)) e ∙ ap sign (let n : h *ℤ pos 0 -ℤ pos 0 *ℤ k ≡ pos 0 = omega (arith, ints) in n)

-- just above a common lower end the order is that of the directions
above-fork : (s t : plane.Edge) → s.from ≡ t.from → order_above s.from t s ≡ orient s.from s.to t.to
above-fork s t e =
    let same : cross (from_to s.from t.from) (from_to s.from t.to) ≡ pos 0 = subst (λ v. cross (from_to s.from v) (from_to s.from t.to) ≡ pos 0) e (cross-from-here s.from (from_to s.from t.to)) in
    let own : cross (from_to s.from s.from) (from_to s.from s.to) ≡ pos 0 = cross-from-here s.from (from_to s.from s.to) in
    ap (λ o. then_sign o (sign (cross (from_to s.from s.to) (from_to t.from t.to))))
    (zero-cross (t.to.y -ℤ t.from.y) (s.to.y -ℤ s.from.y) (cross (from_to s.from t.from) (from_to s.from t.to)) (cross (from_to s.from s.from) (from_to s.from s.to)) same own)
    ∙ ap (λ v. sign (cross (from_to s.from s.to) (from_to v t.to))) (sym e)

fork-plane : (s t : plane.Edge) → IsRisingEdge s → IsRisingEdge t → s.from ≡ t.from → is_plus (orient s.from s.to t.to) ≡ (is_in_span s.from t && (not (is_in_span s.from s) || is_plus (order_above s.from t s)))
fork-plane s t rs rt e =
    let span_t : is_in_span s.from t ≡ is_plus (sign (t.to.y -ℤ s.from.y)) = subst (λ v. is_in_span v t ≡ is_plus (sign (t.to.y -ℤ v.y))) (sym e) (own-span t) in
    left-by (from_to s.from s.to) (from_to s.from t.to) rs (subst (λ v. order v t.to ≡ Plus) (sym e) rt)
    ∙ ap (λ b. b && (not (is_plus (sign (s.to.y -ℤ s.from.y))) || is_plus (orient s.from s.to t.to))) (sym span_t)
    ∙ ap (λ b. is_in_span s.from t && (not b || is_plus (orient s.from s.to t.to))) (sym (own-span s))
    ∙ ap (λ o. is_in_span s.from t && (not (is_in_span s.from s) || is_plus o)) (sym (above-fork s t e))

-- ---- the code's tests in the plane's words
abbrev first_by : Sign → Bool → Bool
first_by Plus left = true
first_by Null left = not left
first_by Minus left = false

-- ---- the anchor comes first, and only the anchor comes before it
abbrev comes_by : plane.Edge → plane.Edge → Bool
comes_by s t = first_by (order s.from t.from) (is_plus (orient s.from s.to t.to))

module _ (k : ℕ) (e f : Edge) (w : IsWholeAt k e) (v : IsWholeAt k f) where
  abbrev s_e : plane.Edge
  s_e = segment_at k e

  abbrev s_f : plane.Edge
  s_f = segment_at k f

  fork-at : s_e.from ≡ s_f.from → forks_left e f ≡ is_plus (orient s_e.from s_e.to s_f.to)
  unfolding forks_left
  fork-at same =
      ap (λ b. b && (not (spans e (lower_end e)) || is_lt (just_above_cmp f e (lower_end e)))) (spans-at k e f w v)
      ∙ ap (λ b. is_in_span s_e.from s_f && (not b || is_lt (just_above_cmp f e (lower_end e)))) (spans-at k e e w w)
      ∙ ap (λ b. is_in_span s_e.from s_f && (not (is_in_span s_e.from s_e) || b)) (above-at k e f e w v w)
      ∙ sym (fork-plane s_e s_f (segment_rises k e w) (segment_rises k f v) same)

  comes-by : (o : Sign) → order s_e.from s_f.from ≡ o → first_of (ordering_of o) (forks_left e f) ≡ first_by o (is_plus (orient s_e.from s_e.to s_f.to))
  comes-by Plus h = refl
  comes-by Null h = ap not (fork-at (order-null s_e.from s_f.from h))
  comes-by Minus h = refl

  comes-is : comes_first e f ≡ comes_by s_e s_f
  unfolding comes_first
  comes-is = ap (λ o. first_of o (forks_left e f)) (order-at k e f w v) ∙ comes-by (order s_e.from s_f.from) refl

minus-plus : (s : Sign) → s ≡ Minus → is_plus s ≡ false
minus-plus s h = ap is_plus h

not-null-plus : (o : Sign) → (o ≡ Minus → ⊥) → (o ≡ Null → ⊥) → o ≡ Plus
not-null-plus Plus h k = refl
not-null-plus Null h k = absurd (k refl)
not-null-plus Minus h k = absurd (h refl)

module _ (es : List plane.Edge) (m : plane.Edge) (a : IsAnchor m es) where
  right-of-it : (t : plane.Edge) → In t es → m.from ≡ t.from → (b : Bool) → same_edge m t ≡ b → is_plus (orient m.from m.to t.to) ≡ false
  right-of-it t i q false h = minus-plus _ (a.leftmost t (into-filter (λ t. not (same_edge m t)) es t i (ap not h)) q)
  right-of-it t i q true h =
      let e = same_edge-true m t h in
      subst (λ (w : plane.Edge). is_plus (orient m.from m.to w.to) ≡ false) e (ap (λ z. is_plus (sign z)) (cross-self (from_to m.from m.to)))

  first-by : (t : plane.Edge) → In t es → (o : Sign) → order m.from t.from ≡ o → first_by o (is_plus (orient m.from m.to t.to)) ≡ true
  first-by t i Plus h = refl
  first-by t i Null h = ap not (right-of-it t i (order-null m.from t.from h) (same_edge m t) refl)
  first-by t i Minus h = absurd (a.least t i h)

  pub anchor-first : (t : plane.Edge) → In t es → comes_by m t ≡ true
  anchor-first t i = first-by t i (order m.from t.from) refl

  negated-plus : (s : Sign) → negated s ≡ Minus → is_plus s ≡ true
  negated-plus Plus h = refl
  negated-plus Null h = cc
  negated-plus Minus h = cc

  plus-down : (s : Sign) → s ≡ Plus → negated s ≡ Minus
  plus-down s h = ap negated h

  one-by : (s : plane.Edge) → In s es → (o : Sign) → order s.from m.from ≡ o → first_by o (is_plus (orient s.from s.to m.to)) ≡ true → (b : Bool) → same_edge m s ≡ b → s ≡ m
  one-by s i o h f true e = sym (same_edge-true m s e)
  one-by s i Plus h f false e = absurd (a.least s i (order-reversed s.from m.from ∙ ap negated h))
  one-by s i Minus h f false e = cc
  one-by s i Null h f false e =
      let q = order-null s.from m.from h in
      let k = a.leftmost s (into-filter (λ t. not (same_edge m t)) es s i (ap not e)) (sym q) in
      let g : orient s.from m.to s.to ≡ Minus = subst (λ v. orient v m.to s.to ≡ Minus) (sym q) k in
      let p : is_plus (orient s.from s.to m.to) ≡ true = negated-plus (orient s.from s.to m.to) (sym (cross-negated (from_to s.from s.to) (from_to s.from m.to)) ∙ g) in
      absurd (cc (sym f ∙ ap not p))

  pub only-anchor : (s : plane.Edge) → In s es → comes_by s m ≡ true → s ≡ m
  only-anchor s i f = one-by s i (order s.from m.from) refl f (same_edge m s) refl

-- ---- among exact edges
-- the segments in the plane multiplied by the common denominator
abbrev pub along : List Edge → Edge → plane.Edge
along es = segment_at (product_of_denominators es)

abbrev pub segments_along : List Edge → List plane.Edge
segments_along es = map (along es) es

-- of two edges of which one runs along the anchor, the one that comes first does
pub first-of-two : (es : List Edge) (f e : Edge) → In f es → In e es → (m : plane.Edge) → IsAnchor m (segments_along es) → (along es e ≡ m) ⊎ (along es f ≡ m) → (b : Bool) → comes_first f e ≡ b → along es (cond b f e) ≡ m
first-of-two es f e i j m a (inl is) true h =
    only-anchor (segments_along es) m a (along es f) (in-map (along es) es f i) (subst (λ t. comes_by (along es f) t ≡ true) is (sym (comes-is (product_of_denominators es) f e (whole-at es f i) (whole-at es e j)) ∙ h))
first-of-two es f e i j m a (inl is) false h = is
first-of-two es f e i j m a (inr is) true h = is
first-of-two es f e i j m a (inr is) false h =
    let t : comes_by (along es f) (along es e) ≡ true = subst (λ s. comes_by s (along es e) ≡ true) (sym is) (anchor-first (segments_along es) m a (along es e) (in-map (along es) es e j)) in
    absurd (cc (sym t ∙ (sym (comes-is (product_of_denominators es) f e (whole-at es f i) (whole-at es e j)) ∙ h)))
