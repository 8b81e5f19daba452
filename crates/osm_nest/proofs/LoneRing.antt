-- One ring alone is outer.
use Rattle.std.proofs.Common.{Bool, List, [], arith, false, get_or, length, not, refl, subst, true, ◌<◌, ◌≡◌}
use Rattle.std.proofs.lemmas.List.{length-map}
use Rattle.osm_geom.specs.declared.edge.Edge.{Edge}
use Rattle.osm_nest.specs.Outer.{IsOuter}
use Rattle.osm_nest.specs.RingLists.{AreRings}
use Rattle.lists.proofs.ListsKit.{clash, in-map, in-map-out, some_member}
use Rattle.osm_geom.specs.Edge.{runs_up}
use Rattle.osm_geom.specs.InPlane.Multiple.{edge_times, edges_times, product_of_denominators}
use Rattle.plane_lists.specs.Lists.Ring.{IsAnchor}
use Rattle.plane_lists.proofs.WindingKit.{some-anchor}
use Rattle.osm_nest.specs.Outer.{AreConflictFree, IsAnchorOf}
use Rattle.osm_nest.specs.RingLists.{all_edges}
use Rattle.osm_nest.proofs.DirectEnclosers.{clear-at, listed, ring-in, some-encloser}
use Rattle.osm_nest.proofs.Leftmost.{along, segments_along}
use Rattle.osm_nest.proofs.RingAnchors.{anchor-of, inner-by, outer-by, plain-along}

-- an edge of it runs along its anchor
anchor-there : (r : List Edge) → AreConflictFree r → 0 < length r → (a : Edge) × IsAnchorOf a r
anchor-there r clear some =
    let x = some_member r some in
    let m = some-anchor (segments_along r) (along r x.0) (in-map (along r) r x.0 x.1) (plain-along r clear) in
    let a = in-map-out (along r) r m.0 m.1.member in
    (a.0, anchor-of r clear a.0 a.1 (subst (λ s. IsAnchor s (segments_along r)) a.2 m.1))

-- an inner ring has an encloser, which is outer, so another ring
pub lone-outer : (rs : List (List Edge)) → AreRings rs → length rs ≡ 1 → IsOuter (get_or rs 0 [])
lone-outer rs are one =
    let inside : 0 < length rs = omega (arith, one) in
    let r = get_or rs 0 [] in
    let k = product_of_denominators (all_edges rs) in
    let long = (listed rs are).long (edges_times k r) (ring-in rs are 0 inside) in
    let same = length-map r (edge_times k) in
    let clear = clear-at rs are 0 inside in
    let a = anchor-there r clear (omega arith) in
    by-direction inside a.0 a.1 (not (runs_up a.0)) refl
  where
    by-direction : (inside : 0 < length rs) → (a : Edge) → IsAnchorOf a (get_or rs 0 []) → (b : Bool) → not (runs_up a) ≡ b → IsOuter (get_or rs 0 [])
    by-direction inside a an true h = (outer-by (get_or rs 0 []) (clear-at rs are 0 inside) a an).0 h
    by-direction inside a an false h =
        let r = get_or rs 0 [] in
        let clear = clear-at rs are 0 inside in
        let inner = (inner-by r clear a an).0 h in
        absurd (some-encloser rs are 0 inside a an inner (λ k low enc.
        let first : k ≡ 0 = omega (arith, one, low) in
        clash (not (runs_up a)) ((outer-by r clear a an).1 (subst (λ n. IsOuter (get_or rs n [])) first enc.outer)) h))
