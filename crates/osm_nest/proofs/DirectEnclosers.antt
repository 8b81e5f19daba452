-- The candidate with the nearest edge is the ring that directly encloses an inner ring.
use Rattle.std.proofs.Common.{◌≡◌, inl, inr, ◌⊎◌, true, false, not, ℕ, ◌<◌, List, [], length, get_or, map, All, sym, ap, subst, ◌∙◌, arith}
use Rattle.std.proofs.lemmas.List.{get_or_default, get_or-map, length-map}
use Rattle.plane_lists.specs.Rings.Nesting.{EnclosesDirectly, IsInnerRing, IsOuterRing, edges_of, encloses, has_edge}
use Rattle.plane_lists.specs.Rings.RingList.{IsRingList}
use Rattle.plane_lists.proofs.NestingKit.{encloses_law, encloser_exists, inner-out, is_outer_by, outer-out, encloses-not, in-edges, same-ring, nest-plain, ring_list_nest}
use Rattle.plane.specs.Edge as plane
use Rattle.plane.specs.Edge.{segment_of}
use Rattle.plane.specs.Height.{is_right_above, order_above}
use Rattle.plane.specs.Sign.{is_plus}
use Rattle.std.proofs.lemmas.Bool.{false_from_ne_true}
use Rattle.plane_lists.specs.Lists.ConflictFree.{IsConflictFree}
use Rattle.plane_lists.specs.Lists.EdgeList.{IsEvenAtPoints}
use Rattle.lists.specs.Member.{In}
use Rattle.plane_lists.specs.Lists.Parity.{is_even}
use Rattle.plane_lists.specs.Lists.Ring.{IsAnchor, segments_of}
use Rattle.plane_lists.proofs.WindingKit.{anchor_one, anchor_span}
use Rattle.lists.proofs.ListsKit.{at-in, clash, in-at, in-map, in-map-out, map-map}
use Rattle.osm_geom.specs.declared.edge.Edge.{Edge}
use Rattle.osm_geom.specs.InPlane.Multiple.{IsWholeAt, edge_times, edges_times, product_of_denominators}
use Rattle.osm_nest.specs.declared.few.search.Encloser.{Encloser}
use Rattle.osm_nest.specs.Beside.{IsEncloser, IsNearestUpTo, IsSloping, is_around, is_nearer, is_right_of_lower_end}
use Rattle.osm_nest.specs.Enclosers.{segments_at}
use Rattle.osm_nest.specs.Outer.{AreConflictFree, IsAnchorOf, IsInner, IsOuter}
use Rattle.osm_nest.specs.RingLists.{AreRings, all_edges, whole_rings}
use Rattle.osm_nest.proofs.Beside.{nearer-at, right-at}
use Rattle.osm_nest.proofs.Further.{part}
use Rattle.osm_nest.proofs.InPlane.{segment_at, segments_times, spans-at}
use Rattle.osm_nest.proofs.MultipliedRings as rings
use Rattle.osm_nest.proofs.Nearest.{nearer-either}

module _ (rs : List (List Edge)) (are : AreRings rs) where
  abbrev K : ℕ
  K = product_of_denominators (all_edges rs)

  -- the rings in the multiplied plane
  abbrev pub in_plane : List (List plane.Edge)
  in_plane = whole_rings rs

  abbrev pub nest : List (List plane.Edge)
  nest = map segments_of in_plane

  abbrev ring : ℕ → List Edge
  ring k = get_or rs k []

  pub listed : IsRingList in_plane
  listed = are.ring_list

  pub sized : length in_plane ≡ length rs
  sized = length-map rs (edges_times K)

  ring-at : (k : ℕ) → k < length rs → get_or in_plane k [] ≡ edges_times K (ring k)
  ring-at k h = get_or-map (edges_times K) rs k [] [] h

  pub ring-in : (k : ℕ) → k < length rs → In (edges_times K (ring k)) in_plane
  ring-in k h = let s = sized in subst (λ r. In r in_plane) (ring-at k h) (at-in in_plane k [] (omega arith))

  along-is : (r : List Edge) → segments_of (edges_times K r) ≡ segments_times K r
  along-is r = map-map segment_of (edge_times K) r

  -- the segments of the ring at a place
  pub segments-at : (k : ℕ) → k < length rs → segments_of (get_or in_plane k []) ≡ segments_times K (ring k)
  segments-at k h = ap segments_of (ring-at k h) ∙ along-is (ring k)

  pub segments-in : (k : ℕ) → k < length rs → In (segments_times K (ring k)) nest
  segments-in k h = subst (λ g. In g nest) (along-is (ring k)) (in-map segments_of in_plane (edges_times K (ring k)) (ring-in k h))

  pub place-of : (g : List plane.Edge) → In g nest → (k : ℕ) × (k < length rs) × (g ≡ segments_times K (ring k))
  place-of g i =
      let r = in-map-out segments_of in_plane g i in
      let q = in-map-out (edges_times K) rs r.0 r.1 in
      let k = in-at q.0 rs q.1 in
      (k.0, k.1, r.2 ∙ ap segments_of q.2 ∙ along-is q.0 ∙ ap (segments_times K) (sym (k.2 [])))

  part-at : (k : ℕ) → k < length rs → rings.Divides rs (ring k)
  part-at k h = part rs (ring k) (at-in rs k [] h)

  pub whole-in : (k : ℕ) → k < length rs → (e : Edge) → In e (ring k) → IsWholeAt K e
  whole-in k h = rings.whole rs are (ring k) (ring-in k h) (part-at k h)

  plain-at : (k : ℕ) → k < length rs → IsConflictFree (segments_times K (ring k))
  plain-at k h = rings.plain rs are (ring k) (ring-in k h) (part-at k h)

  pub clear-at : (k : ℕ) → k < length rs → AreConflictFree (ring k)
  clear-at k h = rings.clear rs are (ring k) (ring-in k h) (part-at k h)

  -- the anchor of a ring is that of the ring multiplied further
  pub anchor-up : (k : ℕ) → k < length rs → (e : Edge) → IsAnchorOf e (ring k) → IsAnchor (segment_at K e) (segments_times K (ring k))
  anchor-up k h = rings.anchor-up rs are (ring k) (ring-in k h) (part-at k h)

  pub clear-item : (k : ℕ) (r : List Edge) → k < length rs → r ≡ get_or rs k r → AreConflictFree r
  clear-item k r h is = subst AreConflictFree (sym (is ∙ get_or_default rs k r [] h)) (clear-at k h)

  -- ---- outer and inner
  even-at : (k : ℕ) → k < length rs → IsEvenAtPoints (segments_times K (ring k))
  even-at k h = rings.even rs are (ring k) (ring-in k h) (part-at k h)

  pub outer-ring : (k : ℕ) → k < length rs → IsOuter (ring k) → IsOuterRing nest (segments_times K (ring k))
  outer-ring k h = rings.outer-up rs are (ring k) (ring-in k h) (part-at k h)

  pub inner-ring : (k : ℕ) → k < length rs → IsInner (ring k) → IsInnerRing nest (segments_times K (ring k))
  inner-ring k h = rings.inner-up rs are (ring k) (ring-in k h) (part-at k h)

  is-outer-at : (k : ℕ) → k < length rs → IsOuterRing nest (segments_times K (ring k)) → IsOuter (ring k)
  is-outer-at k h = rings.outer-down rs are (ring k) (ring-in k h) (part-at k h)

  -- what the rings are in the multiplied plane, they are
  pub outer-at : (k : ℕ) → k < length rs → IsOuterRing nest (segments_at rs k) → IsOuter (ring k)
  outer-at k h o = is-outer-at k h (subst (IsOuterRing nest) (segments-at k h) o)

  pub inner-at : (k : ℕ) → k < length rs → IsInnerRing nest (segments_at rs k) → IsInner (ring k)
  inner-at k h o = rings.inner-down rs are (ring k) (ring-in k h) (part-at k h) (subst (IsInnerRing nest) (segments-at k h) o)

  -- ---- beside the anchor of an inner ring
  module _ (h : ℕ) (hh : h < length rs) (a : Edge) (an : IsAnchorOf a (ring h)) where
    along : IsAnchor (segment_at K a) (segments_times K (ring h))
    along = anchor-up h hh a an

    whole-a : IsWholeAt K a
    whole-a = whole-in h hh a an.member

    pub sloping : IsSloping a
    sloping = spans-at K a a whole-a whole-a ∙ anchor_span (segment_at K a) (segments_times K (ring h)) (plain-at h hh) (even-at h hh) along

    around-is : (k : ℕ) → k < length rs → has_edge (segments_times K (ring k)) (segment_at K a) ≡ false → encloses (segments_times K (ring k)) (segment_at K a) ≡ is_around a (ring k)
    around-is k hk none =
        encloses_law nest (ring_list_nest in_plane listed) (segments_times K (ring k)) (segments_times K (ring h)) (segments-in k hk) (segments-in h hh) (segment_at K a) along none
        ∙ ap (λ n. not (is_even n)) (rings.right-count rs are (ring k) (ring-in k hk) (part-at k hk) a whole-a)

    module _ (inner : IsInner (ring h)) where
      -- an outer ring is another one
      not-own : (k : ℕ) → k < length rs → IsOuter (ring k) → has_edge (segments_times K (ring k)) (segment_at K a) ≡ false
      not-own k hk o = false_from_ne_true (has_edge (segments_times K (ring k)) (segment_at K a)) (λ e.
          let same = same-ring nest (ring_list_nest in_plane listed) (segments_times K (ring h)) (segments_times K (ring k)) (segment_at K a) (segments-in h hh) (segments-in k hk) along.member e in
          let out = outer-out in_plane listed (segments_times K (ring k)) (segments-in k hk) (outer-ring k hk o) in
          let inn = inner-out in_plane listed (segments_times K (ring h)) (segments-in h hh) (inner-ring h hh inner) in
          clash (is_outer_by in_plane listed (segments_times K (ring k))) out (ap (is_outer_by in_plane listed) same ∙ inn))

      encloser-of : (g : List plane.Edge) → In g nest → IsOuterRing nest g → encloses g (segment_at K a) ≡ true → (k : ℕ) × (k < length rs) × (g ≡ segments_times K (ring k)) × IsEncloser rs a k
      encloser-of g i o c =
          let k = place-of g i in
          let outer = is-outer-at k.0 k.1 (subst (IsOuterRing nest) k.2 o) in
          let around = subst (λ l. encloses l (segment_at K a) ≡ true) k.2 c in
          let none = encloses-not nest (ring_list_nest in_plane listed) (segments_times K (ring k.0)) (segment_at K a) around in
          (k.0, k.1, k.2, record { inside = k.1; outer = outer; odd = sym (around-is k.0 k.1 none) ∙ around })

      -- there is a candidate
      pub some-encloser : ((k : ℕ) → k < length rs → IsEncloser rs a k → ⊥) → ⊥
      some-encloser none =
          let d = encloser_exists in_plane listed (edges_times K (ring h)) (ring-in h hh) (subst (IsInnerRing nest) (sym (along-is (ring h))) (inner-ring h hh inner)) in
          let same : d.2.anchor ≡ segment_at K a = anchor_one d.2.anchor (segment_at K a) (segments_times K (ring h)) (plain-at h hh) (subst (IsAnchor d.2.anchor) (along-is (ring h)) d.2.anchors) along in
          let c = encloser-of (segments_of d.0) (in-map segments_of in_plane d.0 d.1) d.2.outer (subst (λ s. encloses (segments_of d.0) s ≡ true) same d.2.around) in
          none c.0 c.1 c.3

      -- some outer ring encloses directly
      pub some-direct : (k : ℕ) × (k < length rs) × IsOuter (ring k) × EnclosesDirectly nest (segments_times K (ring k)) (segments_times K (ring h))
      some-direct =
          let d = encloser_exists in_plane listed (edges_times K (ring h)) (ring-in h hh) (subst (IsInnerRing nest) (sym (along-is (ring h))) (inner-ring h hh inner)) in
          let k = place-of (segments_of d.0) (in-map segments_of in_plane d.0 d.1) in (
            k.0,
            k.1,
            is-outer-at k.0 k.1 (subst (IsOuterRing nest) k.2 d.2.outer),
            subst (λ g. EnclosesDirectly nest g (segments_times K (ring h))) k.2 (subst (EnclosesDirectly nest (segments_of d.0)) (along-is (ring h)) d.2),
          )

      -- the one with the nearest edge encloses directly
      nearest-by : (c : Encloser) (f : Edge) → IsWholeAt K c.edge → IsWholeAt K f → (segment_at K f ≡ segment_at K c.edge) ⊎ (is_nearer a c.edge f ≡ true) → (segment_at K f ≡ segment_at K c.edge) ⊎ (is_plus (order_above (segment_at K a).from (segment_at K c.edge) (segment_at K f)) ≡ true)
      nearest-by c f wc wf (inl e) = inl e
      nearest-by c f wc wf (inr n) = inr (sym (nearer-at K a c.edge f whole-a wc wf) ∙ n)

      pub in-all-edges : (k : ℕ) → k < length rs → (f : Edge) → In f (ring k) → In (segment_at K f) (edges_of nest)
      in-all-edges k hk f i = in-edges nest (segments_times K (ring k)) (segment_at K f) (segments-in k hk) (in-map (segment_at K) (ring k) f i)

      pub encloses-directly : (c : Encloser) → IsNearestUpTo rs a (length rs) c → EnclosesDirectly nest (segments_times K (ring c.place)) (segments_times K (ring h))
      encloses-directly c best =
          let k = c.place in let hk = best.is.candidate.inside in let o = best.is.candidate.outer in let m = best.is.edge in
          record {
            outer = outer-ring k hk o;
            anchor = segment_at K a;
            anchors = along;
            around = around-is k hk (not-own k hk o) ∙ best.is.candidate.odd;
            edge = segment_at K c.edge;
            belongs = in-map (segment_at K) (ring k) c.edge m.member;
            right = sym (right-at K a c.edge whole-a (whole-in k hk c.edge m.member)) ∙ m.right;
            nearest = λ g i out around s j right.
                let q = encloser-of g i out around in
                let f = in-map-out (segment_at K) (ring q.0) s (subst (λ l. In s l) q.2 j) in
                let r : is_right_of_lower_end a f.0 ≡ true = right-at K a f.0 whole-a (whole-in q.0 q.1 f.0 f.1) ∙ subst (λ t. is_right_above (segment_at K a).from (segment_at K a) t ≡ true) f.2 right in
                subst (λ t. (t ≡ segment_at K c.edge) ⊎ (is_plus (order_above (segment_at K a).from (segment_at K c.edge) t) ≡ true)) (sym f.2)
                (nearest-by c f.0 (whole-in k hk c.edge m.member) (whole-in q.0 q.1 f.0 f.1) (nearer-either K a f.0 c.edge whole-a (whole-in q.0 q.1 f.0 f.1) (whole-in k hk c.edge m.member) (edges_of nest) (nest-plain in_plane listed) (in-all-edges q.0 q.1 f.0 f.1) (in-all-edges k hk c.edge m.member) r m.right (best.nearest q.0 q.1 q.3 f.0 f.1 r)));
          }

  -- ---- in the multiplied plane
  pub outer-encloser : (k : ℕ) → k < length rs → IsOuter (ring k) → IsOuterRing nest (segments_at rs k)
  outer-encloser k h o = subst (IsOuterRing nest) (sym (segments-at k h)) (outer-ring k h o)

  pub inner-encloser : (k : ℕ) → k < length rs → IsInner (ring k) → IsInnerRing nest (segments_at rs k)
  inner-encloser k h o = subst (IsInnerRing nest) (sym (segments-at k h)) (inner-ring k h o)

  module _ (h : ℕ) (r : List Edge) (hh : h < length rs) (is : r ≡ get_or rs h r) (a : Edge) (an : IsAnchorOf a r) where
    abbrev own : r ≡ ring h
    own = is ∙ get_or_default rs h r [] hh

    at-own : IsAnchorOf a (ring h)
    at-own = subst (IsAnchorOf a) own an

    pub sloping-of : IsSloping a
    sloping-of = sloping h hh a at-own

    pub direct-encloser-of : (c : Encloser) → IsInner (ring h) → IsNearestUpTo rs a (length rs) c →
        (c.place < length rs) × IsInnerRing (map segments_of (whole_rings rs)) (segments_at rs h) × EnclosesDirectly (map segments_of (whole_rings rs)) (segments_at rs c.place) (segments_at rs h)
    direct-encloser-of c inner best =
        let hk = best.is.candidate.inside in (
          hk,
          inner-encloser h hh inner,
          subst (λ g. EnclosesDirectly nest g (segments_of (get_or in_plane h []))) (sym (segments-at c.place hk))
              (subst (λ g. EnclosesDirectly nest (segments_times K (ring c.place)) g) (sym (segments-at h hh)) (encloses-directly h hh a at-own inner c best)),
        )

    pub encloser-there : IsInner (ring h) → ((k : ℕ) → k < length rs → IsEncloser rs a k → ⊥) → ⊥
    encloser-there inner none = some-encloser h hh a at-own inner none

pub each-clear : (rs : List (List Edge)) → AreRings rs → All AreConflictFree rs
each-clear rs are k r h = subst AreConflictFree (get_or_default rs k [] r h) (clear-at rs are k h)
