-- The edges of an area's rings are those of the directed segments, each as often: sums over them are the same.
use Rattle.std.proofs.Common.{◌≡◌, ◌∙◌, ℕ, ◌+◌, List, [], ◌∷◌, ◌++◌, refl, ap, arith}
use Rattle.std.specs.List.{sum_by}
use Rattle.std.proofs.lemmas.List.Sums.{sum_by-append, sum_by-cons}
use Rattle.osm_geom.specs.declared.edge.Edge.{Edge}
use Rattle.osm_rings.specs.RingList.{AreRingsOf}
use Rattle.lists.specs.Rotated.{IsRotated}
use Rattle.osm_nest.specs.declared.polygon.Polygon.{Polygon}
use Rattle.osm_nest.specs.Nested.{AreNested, AreFromLeast, ArePolygonsFromLeast}
use Rattle.osm_nest.specs.Polygons.{rings_in, rings_of}
use Rattle.osm_nest.specs.RingLists.{all_edges}

pub sum-all_edges : (g : Edge → ℕ) (rs : List (List Edge)) → sum_by g (all_edges rs) ≡ sum_by (sum_by g) rs
sum-all_edges g [] = refl
sum-all_edges g (r ∷ rs) =
    let a = sum_by-append g r (all_edges rs) in
    let b = sum_by-cons (sum_by g) r rs in
    let c = sum-all_edges g rs in omega arith

module _ (g : Edge → ℕ) where
  turned : (r s : List Edge) → IsRotated r s → sum_by g s ≡ sum_by g r
  turned r s t =
      let a = ap (sum_by g) t.old in
      let b = ap (sum_by g) t.new in
      let c = sum_by-append g t.front t.back in
      let d = sum_by-append g t.back t.front in omega arith

  begun : (rs ss : List (List Edge)) → AreFromLeast rs ss → sum_by (sum_by g) ss ≡ sum_by (sum_by g) rs
  begun [] ss are = ap (sum_by (sum_by g)) are
  begun (r ∷ rs) ss are =
      let first = are.0 in
      let others = are.1 in
      let a = ap (sum_by (sum_by g)) are.2 in
      let b = sum_by-cons (sum_by g) first others in
      let c = turned r first are.3.turned in
      let d = begun rs others are.4 in
      let e = sum_by-cons (sum_by g) r rs in omega arith

  in-one : (p : Polygon) (rs : List (List Edge)) → sum_by (sum_by g) (rings_in p ++ rs) ≡ sum_by g p.outer + sum_by (sum_by g) p.inners + sum_by (sum_by g) rs
  in-one p rs =
      let a = sum_by-append (sum_by g) (rings_in p) rs in
      let b = sum_by-cons (sum_by g) p.outer p.inners in omega arith

  polygons-begun : (ps qs : List Polygon) → ArePolygonsFromLeast ps qs → sum_by (sum_by g) (rings_of qs) ≡ sum_by (sum_by g) (rings_of ps)
  polygons-begun [] qs are = ap (λ (xs : List Polygon). sum_by (sum_by g) (rings_of xs)) are
  polygons-begun (p ∷ ps) qs are =
      let first = are.0 in
      let others = are.1 in
      let a = ap (λ (xs : List Polygon). sum_by (sum_by g) (rings_of xs)) are.2 in
      let b = in-one first (rings_of others) in
      let c = turned p.outer first.outer are.3.outer.turned in
      let d = begun p.inners first.inners are.3.inners in
      let e = polygons-begun ps others are.4 in
      let f = in-one p (rings_of ps) in omega arith

  pub sum-rings : (es : List Edge) (rs : List (List Edge)) (polygons : List Polygon) → AreRingsOf es rs → AreNested rs polygons → sum_by (sum_by g) (rings_of polygons) ≡ sum_by g es
  sum-rings es rs polygons cut nested = polygons-begun nested.polygons polygons nested.begun ∙ (nested.of_rings.once (sum_by g) ∙ cut.edges g)
