-- A list multiplied further: conflicts and anchors are those of the list.
use Rattle.std.proofs.Common.{◌≡◌, inl, inr, List, [], ◌∷◌, ◌*◌, ℤ, pos, ℕ, ◌≤◌, get_or, sym, ap, subst, ◌∙◌, arith, zero, suc}
use Prim.Native.Nat.{◌∣◌}
use Rattle.std.proofs.Math.Nat.{mul_comm, mul_left_comm}
use Rattle.plane.specs.Conflict.{IsClearOf}
use Rattle.plane.specs.Edge as plane
use Rattle.plane.specs.Edge.{IsRisingEdge, segment_of}
use Rattle.plane.specs.Order.{order}
use Rattle.plane.specs.Scale.{scaled_edge, scaled_point}
use Rattle.plane.specs.Sign.{Minus, Plus, is_plus, sign}
use Rattle.plane.specs.Vector.{orient}
use Rattle.plane.proofs.PlaneKit.{conflicts-scaled, order-scaled, orient-scaled, point-back}
use Rattle.plane_lists.specs.Lists.ConflictFree.{IsConflictFree, others}
use Rattle.lists.specs.Member.{EachPair, In}
use Rattle.plane_lists.specs.Lists.Ring.{IsAnchor, segments_of}
use Rattle.plane_lists.specs.Lists.ScaledEdges.{scaled_edges}
use Rattle.plane_lists.proofs.WindingKit.{rising_in, direct-by, others-scaled, plain_scaled}
use Rattle.lists.proofs.ListsKit.{all-in, in-all, in-left, in-map, in-map-out, in-right, map-map, map-same}
use Rattle.osm_geom.specs.declared.edge.Edge.{Edge}
use Rattle.osm_geom.specs.Point.{den_of}
use Rattle.osm_geom.specs.InPlane.Multiple.{IsCommon, IsWholeAt, edge_times, edges_times, product_of_denominators}
use Rattle.osm_geom.proofs.EdgesKit.{common_is_common, sign-some, times_further}
use Rattle.osm_nest.specs.RingLists.{all_edges}
use Rattle.osm_nest.proofs.InPlane.{common-append, segment_at, segments_times, whole-at}

module _ (k : ℤ) (hk : sign k ≡ Plus) where
  pub segment-scaled : (e : plane.Edge) → segment_of (scaled_edge k e) ≡ scaled_edge k (segment_of e)
  segment-scaled e = direct-by k hk (is_plus (order (scaled_point k e.from) (scaled_point k e.to))) (is_plus (order e.from e.to)) e (ap is_plus (order-scaled k hk e.from e.to))

  pub segments-scaled : (es : List plane.Edge) → segments_of (scaled_edges k es) ≡ scaled_edges k (segments_of es)
  segments-scaled es = map-map segment_of (scaled_edge k) es ∙ map-same (λ e. segment_of (scaled_edge k e)) (λ e. scaled_edge k (segment_of e)) es segment-scaled ∙ sym (map-map (scaled_edge k) segment_of es)

  pairs-back : (es : List plane.Edge) → EachPair IsClearOf (scaled_edges k es) → EachPair IsClearOf es
  pairs-back [] h = tt
  pairs-back (x ∷ xs) h =
      (all-in (IsClearOf x) xs (λ s i. sym (conflicts-scaled k hk x s) ∙ in-all (IsClearOf (scaled_edge k x)) (scaled_edges k xs) (scaled_edge k s) h.0 (in-map (scaled_edge k) xs s i)), pairs-back xs h.1)

  plain-back : (es : List plane.Edge) → IsConflictFree (scaled_edges k es) → IsConflictFree es
  plain-back es p = record {
    rising = all-in IsRisingEdge es (λ s i. sym (order-scaled k hk s.from s.to) ∙ rising_in (scaled_edges k es) (scaled_edge k s) p (in-map (scaled_edge k) es s i));
    clear = pairs-back es p.clear;
  }

  pub anchor-scaled : (s : plane.Edge) (es : List plane.Edge) → IsAnchor s es → IsAnchor (scaled_edge k s) (scaled_edges k es)
  anchor-scaled s es a = record {
    member = in-map (scaled_edge k) es s a.member;
    least = λ t i o. let r = in-map-out (scaled_edge k) es t i in a.least r.0 r.1 (sym (order-scaled k hk s.from r.0.from) ∙ subst (λ (w : plane.Edge). order (scaled_point k s.from) w.from ≡ Minus) r.2 o);
    leftmost = λ t i q.
        let r = in-map-out (scaled_edge k) (others s es) t (subst (λ l. In t l) (others-scaled k hk s es) i) in
        subst (λ (w : plane.Edge). orient (scaled_point k s.from) (scaled_point k s.to) w.to ≡ Minus) (sym r.2)
        (orient-scaled k hk s.from s.to r.0.to ∙ a.leftmost r.0 r.1 (point-back k hk s.from r.0.from (q ∙ ap (λ (w : plane.Edge). w.from) r.2)));
  }

  anchor-back : (s : plane.Edge) (es : List plane.Edge) → In s es → IsAnchor (scaled_edge k s) (scaled_edges k es) → IsAnchor s es
  anchor-back s es i a = record {
    member = i;
    least = λ t j o. a.least (scaled_edge k t) (in-map (scaled_edge k) es t j) (order-scaled k hk s.from t.from ∙ o);
    leftmost = λ t j q.
        sym (orient-scaled k hk s.from s.to t.to)
        ∙ a.leftmost (scaled_edge k t) (subst (λ l. In (scaled_edge k t) l) (sym (others-scaled k hk s es)) (in-map (scaled_edge k) (others s es) t j)) (ap (scaled_point k) q);
  }

-- ---- from a multiple to a further one
module _ (d m : ℕ) (some : 1 ≤ m) where
  hm : sign (pos m) ≡ Plus
  hm = sign-some m some

  further : (es : List Edge) → IsCommon d es → segments_times (d * m) es ≡ scaled_edges (pos m) (segments_times d es)
  further es c =
      sym (map-map segment_of (edge_times (d * m)) es) ∙ ap segments_of (times_further d m es c.some c.froms c.tos) ∙ segments-scaled (pos m) hm (edges_times d es)
      ∙ ap (scaled_edges (pos m)) (map-map segment_of (edge_times d) es)

  only : (P : Edge → Type 0) (e x : Edge) → P e → In x (e ∷ []) → P x
  only P e x p (inl q) = subst P (sym q) p
  only P e x p (inr n) = absurd n

  further-one : (e : Edge) → IsWholeAt d e → segment_at (d * m) e ≡ scaled_edge (pos m) (segment_at d e)
  further-one e w =
      ap (λ xs. get_or xs 0 (segment_at d e)) (further (e ∷ []) (record {
        some = w.some;
        froms = all-in (λ (e : Edge). den_of e.from ∣ d) (e ∷ []) (λ x i. only (λ (e : Edge). den_of e.from ∣ d) e x w.first i);
        tos = all-in (λ (e : Edge). den_of e.to ∣ d) (e ∷ []) (λ x i. only (λ (e : Edge). den_of e.to ∣ d) e x w.second i);
      }))

module _ (es : List Edge) (m : ℕ) (some : 1 ≤ m) where
  abbrev d : ℕ
  d = product_of_denominators es

  list-further : segments_times (d * m) es ≡ scaled_edges (pos m) (segments_times d es)
  list-further = further d m some es (common_is_common es)

  pub plain-further : IsConflictFree (segments_times d es) → IsConflictFree (segments_times (d * m) es)
  plain-further p = subst IsConflictFree (sym list-further) (plain_scaled (pos m) (hm d m some) (segments_times d es) p)

  pub plain-nearer : IsConflictFree (segments_times (d * m) es) → IsConflictFree (segments_times d es)
  plain-nearer p = plain-back (pos m) (hm d m some) (segments_times d es) (subst IsConflictFree list-further p)

  pub anchor-further : (e : Edge) → In e es → IsAnchor (segment_at d e) (segments_times d es) → IsAnchor (segment_at (d * m) e) (segments_times (d * m) es)
  anchor-further e i a =
      subst (λ l. IsAnchor (segment_at (d * m) e) l) (sym list-further)
      (subst (λ s. IsAnchor s (scaled_edges (pos m) (segments_times d es))) (sym (further-one d m some e (whole-at es e i))) (anchor-scaled (pos m) (hm d m some) (segment_at d e) (segments_times d es) a))

  pub anchor-nearer : (e : Edge) → In e es → IsAnchor (segment_at (d * m) e) (segments_times (d * m) es) → IsAnchor (segment_at d e) (segments_times d es)
  anchor-nearer e i a =
      anchor-back (pos m) (hm d m some) (segment_at d e) (segments_times d es) (in-map (segment_at d) es e i)
      (subst (λ s. IsAnchor s (scaled_edges (pos m) (segments_times d es))) (further-one d m some e (whole-at es e i)) (subst (λ l. IsAnchor (segment_at (d * m) e) l) list-further a))

-- the common denominator of rings is a multiple of that of each
pub factor-some : (k d m : ℕ) → 1 ≤ k → k ≡ d * m → 1 ≤ m
factor-some k d zero h e = let z : d * 0 ≡ 0 = omega arith in absurd (omega arith)
factor-some k d (suc m) h e = omega arith

part-by : (rs : List (List Edge)) (r : List Edge) → In r rs → (m : ℕ) × (product_of_denominators (all_edges rs) ≡ product_of_denominators r * m)
part-by [] r i = absurd i
part-by (x ∷ xs) r (inl e) = (product_of_denominators (all_edges xs), common-append x (all_edges xs) ∙ ap (λ (y : List Edge). product_of_denominators y * product_of_denominators (all_edges xs)) (sym e))
part-by (x ∷ xs) r (inr i) =
    let q = part-by xs r i in
    (product_of_denominators x * q.0, common-append x (all_edges xs) ∙ ap (λ n. product_of_denominators x * n) q.1 ∙ mul_left_comm (product_of_denominators x) (product_of_denominators r) q.0)

pub part : (rs : List (List Edge)) (r : List Edge) → In r rs → (m : ℕ) × (1 ≤ m) × (product_of_denominators (all_edges rs) ≡ product_of_denominators r * m)
part rs r i = let q = part-by rs r i in (q.0, factor-some (product_of_denominators (all_edges rs)) (product_of_denominators r) q.0 (common_is_common (all_edges rs)).some q.1, q.1)

-- with one edge more
pub one-more : (a : Edge) (es : List Edge) → (m : ℕ) × (1 ≤ m) × (product_of_denominators (a ∷ es) ≡ product_of_denominators es * m)
one-more a es =
    let m = den_of a.from * den_of a.to in
    let e = mul_comm m (product_of_denominators es) in
    (m, factor-some (product_of_denominators (a ∷ es)) (product_of_denominators es) m (common_is_common (a ∷ es)).some e, e)

-- an edge of a ring is one of all edges
pub all-edges-in : (rs : List (List Edge)) (r : List Edge) (e : Edge) → In r rs → In e r → In e (all_edges rs)
all-edges-in [] r e i j = absurd i
all-edges-in (x ∷ xs) r e (inl q) j = in-left x (all_edges xs) e (subst (λ l. In e l) q j)
all-edges-in (x ∷ xs) r e (inr i) j = in-right x (all_edges xs) e (all-edges-in xs r e i j)
