-- The rings of a list of edges, in the plane multiplied by the common denominator, are a ring list there: no two cross.
use Rattle.std.proofs.Common.{length, List, [], ap, arith, map, refl, subst, sym, ℕ, ◌∙◌, ◌∷◌, ◌≡◌}
use Rattle.std.specs.List.{sum_by}
use Rattle.std.proofs.lemmas.List.{length-map}
use Rattle.plane_lists.specs.Rings.Nesting.{edges_of}
use Rattle.plane_lists.specs.Rings.RingList.{IsRingList}
use Rattle.plane_lists.specs.Rings.Walk.{HasSameEdges}
use Rattle.plane_lists.proofs.NestingKit.{total-edges}
use Rattle.plane_lists.specs.OneRingList.RingListOf.{IsRingListOf, LiesInWalk}
use Rattle.plane_lists.proofs.OneRingListKit.{rings-uncrossed}
use Rattle.plane.specs.Edge as plane
use Rattle.plane.specs.Bit.{bit}
use Rattle.lists.specs.Member.{In}
use Rattle.plane_lists.specs.Lists.Ring as winding
use Rattle.lists.proofs.ListsKit.{in-map-out, some_member, total, total-is, total-map}
use Rattle.plane_lists.proofs.WindingKit.{total-member}
use Rattle.osm_geom.specs.declared.edge.Edge.{Edge}
use Rattle.osm_geom.specs.InPlane.Multiple.{edge_times, edges_times, product_of_denominators, whole_edges}
use Rattle.osm_geom.specs.InPlane.Sided.{IsSided}
use Rattle.osm_geom.proofs.EdgesKit.{common_is_common, each_whole}
use Rattle.osm_rings.specs.RingList.{AreRingsOf, HoldTheEdges}
use Rattle.osm_rings.proofs.EdgeEquality.{counted-in, exact-out, exact-own, same_exact}
use Rattle.osm_rings.proofs.PlaneRings.{plane-ring}

total-lists : (f : Edge → ℕ) (rs : List (List Edge)) → total (λ (r : List Edge). sum_by f r) rs ≡ total (λ (r : List Edge). total f r) rs
total-lists f [] = refl
total-lists f (r ∷ rs) = let a = total-is f r in let b = total-lists f rs in omega arith

plane-total : (k : ℕ) (f : plane.Edge → ℕ) (rs : List (List Edge)) → total f (edges_of (map (edges_times k) rs)) ≡ total (λ (r : List Edge). total (λ e. f (edge_times k e)) r) rs
plane-total k f [] = refl
plane-total k f (r ∷ rs) =
    let a = total-edges f (map (edges_times k) (r ∷ rs)) in let b = total-edges f (map (edges_times k) rs) in
    let c = plane-total k f rs in let d = total-map f (edge_times k) r in omega arith

module _ (es : List Edge) where
  abbrev pub K : ℕ
  K = product_of_denominators es

  abbrev pub Within : List Edge → Type 0
  Within r = (e : Edge) → In e r → In e es

  abbrev pub in_plane : List (List Edge) → List (List plane.Edge)
  in_plane rs = map (edges_times K) rs

  pub held-within : (rs : List (List Edge)) → HoldTheEdges es rs → (r : List Edge) → In r rs → Within r
  held-within rs held r i e j =
      let f = λ (y : Edge). bit (same_exact e y) in
      let s = total-member f r e j in let o = ap bit (exact-own e) in
      let t = total-member (λ (r : List Edge). total f r) rs r i in
      let u = total-lists f rs in let v = total-is (λ (r : List Edge). sum_by f r) rs in let w = held f in let x = total-is f es in
      counted-in same_exact exact-out exact-own e es (omega arith)

  plane-edges : (rs : List (List Edge)) → HoldTheEdges es rs → HasSameEdges (edges_of (in_plane rs)) (whole_edges es)
  plane-edges rs held f =
      let g = λ (e : Edge). f (edge_times K e) in
      sym (total-is f (edges_of (in_plane rs))) ∙ plane-total K f rs ∙ sym (total-lists g rs) ∙ total-is (λ (r : List Edge). sum_by g r) rs ∙ held g ∙ sym (total-is g es)
      ∙ sym (total-map f (edge_times K) es) ∙ total-is f (whole_edges es)

  -- each ring is one of the plane
  ring-in-plane : (rs : List (List Edge)) → AreRingsOf es rs → (r : List Edge) → In r rs → winding.IsRing (edges_times K r)
  ring-in-plane rs a r i = plane-ring K r (some_member r (omega (arith, (a.ring r i).long))).0 (λ e j. each_whole K es (common_is_common es) e (held-within rs a.edges r i e j)) (a.ring r i)

  -- they are the ring list of the plane
  pub plane-list : (rs : List (List Edge)) → AreRingsOf es rs → IsRingListOf (whole_edges es) (in_plane rs)
  plane-list rs a = record {
    edges = plane-edges rs a.edges;
    walks = λ r i. let s = in-map-out (edges_times K) rs r i in subst (LiesInWalk (whole_edges es)) (sym s.2) (a.walks s.0 s.1);
    ring = λ r i. let s = in-map-out (edges_times K) rs r i in subst winding.IsRing (sym s.2) (ring-in-plane rs a s.0 s.1);
    some = λ r i.
        let s = in-map-out (edges_times K) rs r i in
        let long = (a.ring s.0 s.1).long in
        let same = ap length s.2 ∙ length-map s.0 (edge_times K) in omega arith;
  }

pub rings-do-not-cross : (es : List Edge) → IsSided es → (rs : List (List Edge)) → AreRingsOf es rs → IsRingList (map (edges_times (product_of_denominators es)) rs)
rings-do-not-cross es sd rs a = rings-uncrossed (whole_edges es) sd (in_plane es rs) (plane-list es rs a)
