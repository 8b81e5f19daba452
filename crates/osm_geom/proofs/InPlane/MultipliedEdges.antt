-- What the carrier says of an edge, the plane says of the multiplied edge.
use Rattle.std.proofs.Common.{Bool, List, ap, arith, cond, false, not, pos, refl, subst, sym, true, ℕ, ℤ, ◌*ℤ◌, ◌-ℤ◌, ◌&&◌, ◌*◌, ◌/◌, ◌∙◌, ◌≡◌, ◌≤◌}
use Rattle.std.specs.Ordering.{is_lt}
use Rattle.std.proofs.lemmas.Int.{ints}
use Prim.Native.Nat.{◌∣◌}
use Rattle.plane.specs.Edge.{IsRisingEdge, is_rising, reversed, segment_of}
use Rattle.plane.specs.Edge as plane
use Rattle.plane.specs.Height.{is_in_span, is_right_above, order_above}
use Rattle.plane.specs.Order.{order}
use Rattle.plane.specs.Scale.{scaled_edge, scaled_point}
use Rattle.plane.specs.Sign.{Minus, Null, Plus, Sign, is_minus, is_plus, negated, sign}
use Rattle.plane.specs.Vector.{Vector, cross, dot, from_to}
use Rattle.plane.proofs.PlaneKit.{same_edge_by, line-order-up, order-null, order-reversed, rising-direction, same_vector, vector_of, cross-chain, from_to-scaled, point-twice}
use Rattle.plane.proofs.SignKit.{lift, same, ◌⊠◌, null-zero, plus-times, sign-reversed}
use Rattle.lists.specs.Member.{In}
use Rattle.lists.proofs.ListsKit.{in-all, rest_nothing}
use Rattle.osm_geom.specs.declared.edge.Carrier.{Carrier}
use Rattle.osm_geom.specs.declared.edge.Edge.{Edge}
use Rattle.osm_geom.specs.declared.point.Point.{Point}
use Rattle.osm_geom.specs.Carrier.{rising_of}
use Rattle.osm_geom.specs.Edge.{direction_of, opposite, runs_up}
use Rattle.osm_geom.specs.JustAbove.{height_of, just_above_cmp, piece_of}
use Rattle.osm_lattice.specs.OrderLaws.{ordering_of}
use Rattle.osm_geom.specs.Point.{den_of, x_of, y_of}
use Rattle.osm_geom.specs.Span.{height_order, spans}
use Rattle.osm_geom.proofs.GeometryKit.{x_den-some}
use Rattle.osm_geom.specs.InPlane.OneDirection.{HaveOneDirection}
use Rattle.osm_geom.specs.InPlane.Multiple.{IsCommon, IsWholeAt, edge_times, point_times, step_times}
use Rattle.osm_geom.proofs.InPlane.Directions.{along-cross, along-dot, along-from, along-opposite}
use Rattle.osm_geom.proofs.InPlane.Carriers.{IsOnLineOf, on_line, piece-steps, piece_times, piece_times-rises, point-regained}
use Rattle.osm_geom.proofs.InPlane.Commons.{product-some, sign-some}
use Rattle.osm_geom.proofs.InPlane.Lines.{AreOneLine, level-order, line-order, order_above-scaled, step_of}
use Rattle.osm_geom.proofs.InPlane.MultipliedPoints.{factor, factor-some, height_order_is, nat, order_is, same_is_same}

pub each_whole : (k : ℕ) (es : List Edge) → IsCommon k es → (e : Edge) → In e es → IsWholeAt k e
each_whole k es c e i = record { some = c.some; first = in-all (λ (f : Edge). den_of f.from ∣ k) es e c.froms i; second = in-all (λ (f : Edge). den_of f.to ∣ k) es e c.tos i }

-- ---- the segment of an edge
segment_rises-by : (t : plane.Edge) (s : Sign) → order t.from t.to ≡ s → (s ≡ Null → ⊥) → IsRisingEdge (cond (is_plus s) t (reversed t))
segment_rises-by t Plus h apart = h
segment_rises-by t Minus h apart = order-reversed t.from t.to ∙ ap negated h
segment_rises-by t Null h apart = absurd (apart refl)

pub segment_rises : (k : ℕ) (e : Edge) → IsWholeAt k e → IsRisingEdge (segment_of (edge_times k e))
segment_rises k e w =
    segment_rises-by (edge_times k e) (order (point_times k e.from) (point_times k e.to)) refl
    (λ h. e.apart (same_is_same k e.from e.to w.some w.first w.second (order-null (point_times k e.from) (point_times k e.to) h)))

both-ends : (P : Vector → Type 0) (b : Bool) (t : plane.Edge) → P t.from → P t.to → P (cond b t (reversed t)).from × P (cond b t (reversed t)).to
both-ends P true t h g = (h, g)
both-ends P false t h g = (g, h)

-- ---- two segments on one line
between-nothing : (t : plane.Edge) (u v : Vector) → IsOnLineOf t u → IsOnLineOf t v → sign (cross (step_of t) (from_to u v)) ≡ Null
between-nothing t u v h g =
    let d = step_of t in
    ap sign (rest_nothing (cross d (from_to t.from u)) (cross d (from_to u v)) (cross d (from_to t.from v)) (cross-chain d t.from u v) (null-zero (cross d (from_to t.from u)) h) (null-zero (cross d (from_to t.from v)) g))

one-line : (s t : plane.Edge) → IsRisingEdge s → IsRisingEdge t → IsOnLineOf t s.from → IsOnLineOf t s.to → AreOneLine s t
one-line s t up_s up_t h g =
    let on = between-nothing t s.from s.to h g in
    record {
      along = along-from (step_of t) (step_of s) (rising-direction t.from t.to up_t) on (line-order-up t.from t.to s.from s.to up_t on ∙ up_s);
      on = h;
    }

-- an edge is a piece of its carrier's line, which runs in the same direction
pub edge_line : (k : ℕ) (e : Edge) → IsWholeAt k e → AreOneLine (segment_of (edge_times k e)) (piece_times k e.carrier)
edge_line k e w =
    let t = piece_times k e.carrier in
    let ends = both-ends (IsOnLineOf t) (is_rising (edge_times k e)) (edge_times k e) (on_line k e.carrier e.from w.some w.first e.from_on) (on_line k e.carrier e.to w.some w.second e.to_on) in
    one-line (segment_of (edge_times k e)) t (segment_rises k e w) (piece_times-rises k e.carrier w.some) ends.0 ends.1

-- ---- directions
pub rises_alike : (k : ℕ) (e : Edge) → IsWholeAt k e → runs_up e ≡ is_rising (edge_times k e)
rises_alike k e w = ap is_plus (order_is k e.from e.to w.some w.first w.second)

along-unscaled : (k : ℤ) (v w u : Vector) → sign k ≡ Plus → HaveOneDirection v w → w ≡ scaled_point k u → HaveOneDirection v u
along-unscaled k v w u hk a e = record {
  m = a.m;
  n = a.n *ℤ k;
  m_positive = a.m_positive;
  n_positive = plus-times a.n k a.n_positive ∙ hk;
  same = a.same ∙ ap (scaled_point a.n) e ∙ point-twice a.n k u;
}

back-is : (u v : Vector) → opposite (from_to u v) ≡ from_to v u
back-is u v = same_vector (pos 0 -ℤ (v.x -ℤ u.x)) (pos 0 -ℤ (v.y -ℤ u.y)) (u.x -ℤ v.x) (u.y -ℤ v.y) (omega (arith, ints)) (omega (arith, ints))

along-turned : (u v r : Vector) → HaveOneDirection (from_to u v) r → HaveOneDirection (from_to v u) (opposite r)
along-turned u v r a = subst (λ w. HaveOneDirection w (opposite r)) (back-is u v) (along-opposite (from_to u v) r a)

direction-by : (b : Bool) (t : plane.Edge) (r : Vector) → HaveOneDirection (step_of (cond b t (reversed t))) r → HaveOneDirection (step_of t) (cond b r (opposite r))
direction-by true t r a = a
direction-by false t r a = along-turned t.to t.from r a

pub step_along : (k : ℕ) (e : Edge) → IsWholeAt k e → HaveOneDirection (step_times k e) (direction_of e)
unfolding direction_of
step_along k e w =
    let r = rising_of e.carrier in let t = edge_times k e in let hk = sign-some k w.some in
    let steps : step_of (piece_times k e.carrier) ≡ scaled_point (pos k) r = from_to-scaled (pos k) hk (piece_of e.carrier).from (piece_of e.carrier).to ∙ ap (scaled_point (pos k)) (piece-steps e.carrier) in
    let along : HaveOneDirection (step_of (segment_of t)) r = along-unscaled (pos k) (step_of (segment_of t)) (step_of (piece_times k e.carrier)) r hk (edge_line k e w).along steps in
    subst (λ b. HaveOneDirection (step_of t) (cond b r (opposite r))) (sym (rises_alike k e w)) (direction-by (is_rising t) t r along)

pub back_along : (k : ℕ) (e : Edge) → IsWholeAt k e → HaveOneDirection (from_to (point_times k e.to) (point_times k e.from)) (opposite (direction_of e))
back_along k e w = along-turned (point_times k e.from) (point_times k e.to) (direction_of e) (step_along k e w)

pub cross_alike : (k : ℕ) (e f : Edge) → IsWholeAt k e → IsWholeAt k f → sign (cross (step_times k e) (step_times k f)) ≡ sign (cross (direction_of e) (direction_of f))
cross_alike k e f w z = along-cross (step_times k e) (step_times k f) (direction_of e) (direction_of f) (step_along k e w) (step_along k f z)

pub dot_alike : (k : ℕ) (e f : Edge) → IsWholeAt k e → IsWholeAt k f → sign (dot (step_times k e) (step_times k f)) ≡ sign (dot (direction_of e) (direction_of f))
dot_alike k e f w z = along-dot (step_times k e) (step_times k f) (direction_of e) (direction_of f) (step_along k e w) (step_along k f z)

-- ---- heights
minus-turned : (s : Sign) → not (is_minus s) ≡ not (is_plus (negated s))
minus-turned Plus = refl
minus-turned Null = refl
minus-turned Minus = refl

at-least : (a b : ℤ) → not (is_minus (sign (b -ℤ a))) ≡ not (is_plus (sign (a -ℤ b)))
at-least a b = minus-turned (sign (b -ℤ a)) ∙ ap (λ s. not (is_plus s)) (sym (sign-reversed (b -ℤ a) (a -ℤ b) (omega (arith, ints))))

ends-span : (k : ℕ) (low high at : Point) → 1 ≤ k → den_of low ∣ k → den_of high ∣ k → den_of at ∣ k →
    (not (is_minus (height_order low at)) && is_plus (height_order at high)) ≡ is_in_span (point_times k at) (record { from = point_times k low; to = point_times k high })
ends-span k low high at some in_low in_high in_at =
    ap (λ s. not (is_minus s) && is_plus (height_order at high)) (height_order_is k low at some in_low in_at)
    ∙ ap (λ b. b && is_plus (height_order at high)) (at-least (point_times k low).y (point_times k at).y)
    ∙ ap (λ s. not (is_plus (sign ((point_times k low).y -ℤ (point_times k at).y))) && is_plus s) (height_order_is k at high some in_at in_high)

spans-by : (b : Bool) (k : ℕ) (e : Edge) (at : Point) → IsWholeAt k e → den_of at ∣ k →
    (not (is_minus (height_order (cond b e.from e.to) at)) && is_plus (height_order at (cond b e.to e.from))) ≡ is_in_span (point_times k at) (cond b (edge_times k e) (reversed (edge_times k e)))
spans-by true k e at w in_at = ends-span k e.from e.to at w.some w.first w.second in_at
spans-by false k e at w in_at = ends-span k e.to e.from at w.some w.second w.first in_at

pub spans_alike : (k : ℕ) (e : Edge) (at : Point) → IsWholeAt k e → den_of at ∣ k → spans e at ≡ is_in_span (point_times k at) (segment_of (edge_times k e))
unfolding spans
spans_alike k e at w in_at =
    spans-by (runs_up e) k e at w in_at ∙ ap (λ b. is_in_span (point_times k at) (cond b (edge_times k e) (reversed (edge_times k e)))) (rises_alike k e w)

-- ---- the order just above a height
height-by : (m x : ℕ) (a : ℤ) → pos m *ℤ (a *ℤ pos x) ≡ pos (m * x) *ℤ a
height-by m x a = same (nat m ⊠ (lift a ⊠ nat x)) (nat (m * x) ⊠ lift a) (omega arith)

joined : (m x d k : ℕ) → m * (x * d) ≡ k → (m * x) * d ≡ k
joined m x d k e = omega (arith, e)

-- the lines at the height of the point, and at that of the point left of it on x = 0
module _ (k : ℕ) (c d : Carrier) (at : Point) (some : 1 ≤ k) (in_at : den_of at ∣ k) where
  abbrev j : ℕ
  j = (k / den_of at) * (x_of at).den

  j-some : 1 ≤ j
  j-some = product-some (k / den_of at) (x_of at).den (factor-some k (den_of at) some in_at) (x_den-some at)

  j-whole : j * (y_of at).den ≡ k
  j-whole = joined (k / den_of at) (x_of at).den (y_of at).den k (factor k (den_of at) in_at)

  piece-regained : (b : Carrier) → scaled_edge (pos j) (scaled_edge (pos (y_of at).den) (piece_of b)) ≡ piece_times k b
  piece-regained b =
      let q = pos (y_of at).den in let t = piece_of b in
      same_edge_by (scaled_point (pos j) (scaled_point q t.from)) (scaled_point (pos j) (scaled_point q t.to)) (scaled_point (pos k) t.from) (scaled_point (pos k) t.to)
      (point-regained j (y_of at).den k t.from j-whole) (point-regained j (y_of at).den k t.to j-whole)

  pub lines_alike : order_above (height_of at) (scaled_edge (pos (y_of at).den) (piece_of c)) (scaled_edge (pos (y_of at).den) (piece_of d)) ≡ order_above (point_times k at) (piece_times k c) (piece_times k d)
  lines_alike =
      let q = pos (y_of at).den in let C = scaled_edge q (piece_of c) in let D = scaled_edge q (piece_of d) in let p = point_times k at in let zero_x = pos j *ℤ pos 0 in
      sym (order_above-scaled (pos j) (height_of at) C D (sign-some j j-some))
      ∙ ap (λ t. order_above (scaled_point (pos j) (height_of at)) t (scaled_edge (pos j) D)) (piece-regained c)
      ∙ ap (λ t. order_above (scaled_point (pos j) (height_of at)) (piece_times k c) t) (piece-regained d)
      ∙ ap (λ y. order_above (vector_of zero_x y) (piece_times k c) (piece_times k d)) (sym (height-by (k / den_of at) (x_of at).den (y_of at).num))
      ∙ level-order p.x zero_x p.y (piece_times k c) (piece_times k d)

order_alike : (k : ℕ) (e f : Edge) (at : Point) → IsWholeAt k e → IsWholeAt k f → den_of at ∣ k →
    order_above (height_of at) (scaled_edge (pos (y_of at).den) (piece_of e.carrier)) (scaled_edge (pos (y_of at).den) (piece_of f.carrier)) ≡ order_above (point_times k at) (segment_of (edge_times k e)) (segment_of (edge_times k f))
order_alike k e f at w z in_at =
    lines_alike k e.carrier f.carrier at w.some in_at
    ∙ sym (line-order (point_times k at) (segment_of (edge_times k e)) (segment_of (edge_times k f)) (piece_times k e.carrier) (piece_times k f.carrier) (edge_line k e w) (edge_line k f z))

pub just_above_alike : (k : ℕ) (e f : Edge) (at : Point) → IsWholeAt k e → IsWholeAt k f → den_of at ∣ k →
    just_above_cmp e f at ≡ ordering_of (order_above (point_times k at) (segment_of (edge_times k e)) (segment_of (edge_times k f)))
unfolding just_above_cmp
just_above_alike k e f at w z in_at = ap ordering_of (order_alike k e f at w z in_at)

less-is : (s : Sign) → is_plus s ≡ is_lt (ordering_of s)
less-is Plus = refl
less-is Null = refl
less-is Minus = refl

pub right_above_alike : (k : ℕ) (e f : Edge) (at : Point) → IsWholeAt k e → IsWholeAt k f → den_of at ∣ k →
    is_right_above (point_times k at) (segment_of (edge_times k e)) (segment_of (edge_times k f)) ≡ (spans f at && is_lt (just_above_cmp e f at))
right_above_alike k e f at w z in_at =
    let s = order_above (point_times k at) (segment_of (edge_times k e)) (segment_of (edge_times k f)) in
    ap (λ b. b && is_plus s) (sym (spans_alike k f at z in_at)) ∙ ap (λ b. spans f at && b) (less-is s ∙ ap is_lt (sym (just_above_alike k e f at w z in_at)))
