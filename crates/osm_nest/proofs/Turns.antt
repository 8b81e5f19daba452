-- RingFromLeast rings sorted by where they begin are in order, since no two begin with the same edge.
use Rattle.std.proofs.Common.{AllPairs, Bool, List, [], ap, arith, false, get_or, length, not, refl, subst, sym, true, ℕ, ◌<◌, ◌∙◌, ◌≡◌, ◌≢◌, ◌≤◌}
use Rattle.std.specs.List.Sorted.{IsPermutation, IsSortedBy}
use Rattle.std.specs.List.{IsAllAdjacentAnswer}
use Rattle.std.specs.Ordering.{is_lt, ordering_reverse, ordering_then}
use Rattle.std.specs.declared.cmp.Ordering.{Ordering}
use Rattle.std.specs.declared.cmp.Ordering.TheVariants.{Equal, Greater, Less}
use Rattle.std.proofs.lemmas.Bool.{not-true}
use Rattle.std.proofs.lemmas.Cmp.{on_total, then_total, tied_itself}
use Rattle.std.proofs.lemmas.List.{get_or-map, length-append, length-map}
use Rattle.std.proofs.lemmas.List.MinMax.{ranks_by}
use Rattle.std.proofs.lemmas.List.Sorted.{sorted_far}
use Rattle.plane_lists.proofs.NestingKit.{sided-once}
use Rattle.plane_lists.specs.Rings.Nesting.{edges_of}
use Rattle.lists.specs.Member.{In}
use Rattle.lists.proofs.ListsKit.{at-in, clash, in-map, rotated-in}
use Rattle.osm_geom.specs.declared.edge.Edge.{Edge}
use Rattle.osm_geom.specs.declared.point.Point.{Point}
use Rattle.osm_geom.specs.Point.{point_cmp}
use Rattle.osm_geom.proofs.GeometryKit.{point_same, point_total}
use Rattle.std.specs.Cmp.{IsStrictWeakOrder, IsTotalOrder}
use Rattle.osm_nest.specs.declared.rings_from_least.RingFromLeast.{RingFromLeast}
use Rattle.osm_nest.specs.Grouped.{AreListed, ArePlacesSorted, AreSortedFromLeast, IsFromLeastAt}
use Rattle.osm_nest.specs.Nested.{BeginsBefore, edge_cmp}
use Rattle.osm_nest.specs.RingLists.{AreRings, all_edges, whole_rings}
use Rattle.osm_nest.proofs.Places.{placed, rings-apart, stand}
use Rattle.osm_geom.specs.InPlane.Multiple.{edge_times, edges_times, point_times, product_of_denominators}

pub edges-total : IsTotalOrder edge_cmp
edges-total = then_total (on_total (λ (e : Edge). e.from) point_total) (on_total (λ (e : Edge). e.to) point_total)

-- rings by their first edges, where they have some
pub first-ranks : (d : Edge) → IsStrictWeakOrder (λ (b c : RingFromLeast). is_lt (edge_cmp (get_or b.ring 0 d) (get_or c.ring 0 d)))
first-ranks d = ranks_by edges-total (λ (b : RingFromLeast). get_or b.ring 0 d)

-- each ring is in order with the next
pub sorted-by-neighbours : (d : Edge) (rs : List (List Edge)) (told : Bool) → told ≡ true → IsAllAdjacentAnswer (λ (r s : List Edge) (b : Bool). b ≡ not (is_lt (edge_cmp (get_or s 0 d) (get_or r 0 d)))) rs told → IsSortedBy (λ (r s : List Edge). is_lt (edge_cmp (get_or r 0 d) (get_or s 0 d))) rs
sorted-by-neighbours d rs true h told = λ k z from inside. not-true _ (sym (told k z inside))
sorted-by-neighbours d rs false h told = absurd (cc)

-- of two edges with other ends the one that isn't after the other is before it
module _ (s t : Edge) (after : is_lt (edge_cmp t s) ≡ false) (apart : s.from ≡ t.from → s.to ≡ t.to → ⊥) where
  flip : (p q : Point) → point_cmp p q ≡ Greater → point_cmp q p ≡ Less
  flip p q e = point_total.antisymm q p ∙ ap ordering_reverse e

  by-to : s.from ≡ t.from → (o : Ordering) → point_cmp s.to t.to ≡ o → ordering_then Equal (point_cmp s.to t.to) ≡ Less
  by-to f Less e = e
  by-to f Equal e = absurd (apart f (point_same s.to t.to e))
  by-to f Greater e =
      let g : point_cmp t.from s.from ≡ Equal = ap (λ p. point_cmp t.from p) f ∙ tied_itself point_total t.from in
      let h : edge_cmp t s ≡ Less = ap (λ o. ordering_then o (point_cmp t.to s.to)) g ∙ flip s.to t.to e in
      absurd (clash (is_lt (edge_cmp t s)) (ap is_lt h) after)

  by-from : (o : Ordering) → point_cmp s.from t.from ≡ o → ordering_then (point_cmp s.from t.from) (point_cmp s.to t.to) ≡ Less
  by-from Less e = ap (λ o. ordering_then o (point_cmp s.to t.to)) e
  by-from Equal e = ap (λ o. ordering_then o (point_cmp s.to t.to)) e ∙ by-to (point_same s.from t.from e) (point_cmp s.to t.to) refl
  by-from Greater e =
      let h : edge_cmp t s ≡ Less = ap (λ o. ordering_then o (point_cmp t.to s.to)) (flip s.from t.from e) in
      absurd (clash (is_lt (edge_cmp t s)) (ap is_lt h) after)

  pub edge-before : edge_cmp s t ≡ Less
  edge-before = by-from (point_cmp s.from t.from) refl

module _ (rs : List (List Edge)) (are : AreRings rs) where
  pub begun-some : (n : ℕ) (b : RingFromLeast) → n < length rs → IsFromLeastAt (get_or rs n []) n b → 0 < length b.ring
  begun-some n b h is =
      let k = product_of_denominators (all_edges rs) in
      let r = get_or rs n [] in
      let here : get_or (whole_rings rs) n [] ≡ edges_times k r = get_or-map (edges_times k) rs n [] [] h in
      let size = length-map rs (edges_times k) in
      let long : 3 ≤ length (edges_times k r) = subst (λ xs. 3 ≤ length xs) here (are.ring_list.long (get_or (whole_rings rs) n []) (at-in (whole_rings rs) n [] (omega arith))) in
      let t = is.turned.turned in
      let a = length-map r (edge_times k) in let b = length-append t.front t.back in let c = length-append t.back t.front in
      let d = ap length t.old in let e = ap length t.new in omega arith

module _ (rs : List (List Edge)) (are : AreRings rs) (listed bs : List RingFromLeast) (all : AreListed rs (length rs) listed) (moved : IsPermutation listed bs) (sorted : ArePlacesSorted bs) where
  abbrev k : ℕ
  k = product_of_denominators (all_edges rs)

  first-in : (n : ℕ) (b : RingFromLeast) → n < length rs → IsFromLeastAt (get_or rs n []) n b → (d : Edge) → In (edge_times k (get_or b.ring 0 d)) (get_or (whole_rings rs) n [])
  first-in n b h is d =
      let r = get_or rs n [] in
      let here : get_or (whole_rings rs) n [] ≡ edges_times k r = get_or-map (edges_times k) rs n [] [] h in
      subst (In (edge_times k (get_or b.ring 0 d))) (sym here) (in-map (edge_times k) r (get_or b.ring 0 d) (rotated-in r b.ring is.turned.turned (get_or b.ring 0 d) (at-in b.ring 0 d (begun-some rs are n b h is))))

  starts-apart : (b c : RingFromLeast) → b.place ≢ c.place → (b.place < length rs) × IsFromLeastAt (get_or rs b.place []) b.place b → (c.place < length rs) × IsFromLeastAt (get_or rs c.place []) c.place c →
      (d : Edge) → (get_or b.ring 0 d).from ≡ (get_or c.ring 0 d).from → (get_or b.ring 0 d).to ≡ (get_or c.ring 0 d).to → ⊥
  starts-apart b c n (h, is) (l, it) d from to =
      let e = edge_times k (get_or b.ring 0 d) in
      let same : edge_times k (get_or c.ring 0 d) ≡ e = ap (λ p. record { from = point_times k p; to = point_times k (get_or c.ring 0 d).to }) (sym from) ∙ ap (λ p. record { from = point_times k (get_or b.ring 0 d).from; to = point_times k p }) (sym to) in
      let size = length-map rs (edges_times k) in
      rings-apart (whole_rings rs) (sided-once (edges_of (whole_rings rs)) are.ring_list.sided) b.place c.place e n (omega arith) (omega arith) (first-in b.place b h is d)
      (subst (λ x. In x (get_or (whole_rings rs) c.place [])) same (first-in c.place c l it d))

  in-order : AllPairs (λ (b c : RingFromLeast). BeginsBefore b.ring c.ring) bs
  in-order i j z h l d =
      let b = get_or bs i z in let c = get_or bs j z in
      let x = stand rs listed bs all moved i z (omega arith) in
      let y = stand rs listed bs all moved j z l in
      let far = sorted_far (λ (b c : RingFromLeast). is_lt (edge_cmp (get_or b.ring 0 d) (get_or c.ring 0 d))) (first-ranks d) bs (sorted d) i j z (omega arith) l in
      edge-before (get_or b.ring 0 d) (get_or c.ring 0 d) far (starts-apart b c ((placed rs listed bs all moved).once i j z h l) x y d)

  pub turns : AreSortedFromLeast rs bs
  turns = record { listed = listed; are = all; moved = moved; order = in-order }
