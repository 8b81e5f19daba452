-- Edges in the plane multiplied by a number that makes their ends whole: heights and orders in the plane's words.
use Rattle.std.proofs.Common.{◌≡◌, Bool, true, false, cond, List, [], ◌∷◌, ◌++◌, ◌*◌, map, ℕ, refl, sym, ap, ◌∙◌, arith}
use Rattle.std.proofs.Math.Nat.{mul_assoc}
use Prim.Native.Nat.{◌∣◌}
use Rattle.std.specs.Ordering.{is_lt}
use Rattle.plane.specs.Edge as plane
use Rattle.plane.specs.Height.{is_in_span, order_above}
use Rattle.plane.specs.Order.{order}
use Rattle.plane.specs.Sign.{is_plus}
use Rattle.lists.specs.Member.{In}
use Rattle.osm_geom.specs.declared.edge.Edge.{Edge}
use Rattle.osm_geom.specs.Edge.{runs_up}
use Rattle.osm_geom.specs.JustAbove.{just_above_cmp}
use Rattle.osm_lattice.specs.OrderLaws.{ordering_of}
use Rattle.osm_lattice.proofs.LatticeKit.{is_lt-plus}
use Rattle.osm_geom.specs.Point.{den_of, point_cmp}
use Rattle.osm_geom.specs.Span.{lower_end, spans}
use Rattle.osm_geom.specs.InPlane.Multiple.{IsWholeAt, edge_times, point_times, product_of_denominators}
use Rattle.osm_geom.proofs.EdgesKit.{common_is_common, each_whole, just_above_alike, rises_alike, spans_alike, order_is}

-- the segment of the multiplied plane along which e runs
abbrev pub segment_at : ℕ → Edge → plane.Edge
segment_at k e = plane.segment_of (edge_times k e)

abbrev pub segments_times : ℕ → List Edge → List plane.Edge
segments_times k es = map (segment_at k) es

-- at the common denominator of a list its edges are whole
pub whole-at : (es : List Edge) (e : Edge) → In e es → IsWholeAt (product_of_denominators es) e
whole-at es e i = each_whole (product_of_denominators es) es (common_is_common es) e i

pub common-append : (xs ys : List Edge) → product_of_denominators (xs ++ ys) ≡ product_of_denominators xs * product_of_denominators ys
common-append [] ys = let e : 1 * product_of_denominators ys ≡ product_of_denominators ys = omega arith in sym e
common-append (x ∷ xs) ys =
    ap (λ n. den_of x.from * den_of x.to * n) (common-append xs ys) ∙ sym (mul_assoc (den_of x.from * den_of x.to) (product_of_denominators xs) (product_of_denominators ys))

module _ (k : ℕ) where
  lower-by : (e : Edge) (b : Bool) → point_times k (cond b e.from e.to) ≡ (cond b (edge_times k e) (plane.reversed (edge_times k e))).from
  lower-by e true = refl
  lower-by e false = refl

  -- its lower end
  pub lower-at : (e : Edge) → IsWholeAt k e → point_times k (lower_end e) ≡ (segment_at k e).from
  lower-at e w = lower-by e (runs_up e) ∙ ap (λ b. (cond b (edge_times k e) (plane.reversed (edge_times k e))).from) (rises_alike k e w)

  den-by : (e : Edge) → IsWholeAt k e → (b : Bool) → den_of (cond b e.from e.to) ∣ k
  den-by e w true = w.first
  den-by e w false = w.second

  pub lower-den : (e : Edge) → IsWholeAt k e → den_of (lower_end e) ∣ k
  lower-den e w = den-by e w (runs_up e)

  pub spans-at : (a f : Edge) → IsWholeAt k a → IsWholeAt k f → spans f (lower_end a) ≡ is_in_span (segment_at k a).from (segment_at k f)
  spans-at a f w v = spans_alike k f (lower_end a) v (lower-den a w) ∙ ap (λ p. is_in_span p (segment_at k f)) (lower-at a w)

  pub above-at : (a f g : Edge) → IsWholeAt k a → IsWholeAt k f → IsWholeAt k g → is_lt (just_above_cmp f g (lower_end a)) ≡ is_plus (order_above (segment_at k a).from (segment_at k f) (segment_at k g))
  above-at a f g w v u =
      ap is_lt (just_above_alike k f g (lower_end a) v u (lower-den a w)) ∙ is_lt-plus (order_above (point_times k (lower_end a)) (segment_at k f) (segment_at k g))
      ∙ ap (λ p. is_plus (order_above p (segment_at k f) (segment_at k g))) (lower-at a w)

  pub order-at : (e f : Edge) → IsWholeAt k e → IsWholeAt k f → point_cmp (lower_end e) (lower_end f) ≡ ordering_of (order (segment_at k e).from (segment_at k f).from)
  unfolding point_cmp
  order-at e f w v =
      ap ordering_of (order_is k (lower_end e) (lower_end f) w.some (lower-den e w) (lower-den f v)
      ∙ ap (λ p. order p (point_times k (lower_end f))) (lower-at e w) ∙ ap (λ p. order (segment_at k e).from p) (lower-at f v))
