use Rattle.std.proofs.Common.{arith, length, subst, ◌++◌, ◌≡◌}
use Rattle.std.specs.List.Sorted.{IsPermutation}
use Rattle.std.proofs.lemmas.List.Sorted.{IsPermutation-append}
use Rattle.osm_nest.specs.SweptEdges.{AreRingEdges}
use Rattle.osm_nest.proofs.KnownEnclosers.{items-permutation}
use Rattle.osm_nest.proofs.RingEdges.{all-items, ring-added}
use Rattle.osm_nest.proofs.sweep.ring_edges.sloping_edges.Goals as goal

pub loop-place-preserved : goal.loop-place-preserved
loop-place-preserved c =
    let rs = c.args.rings.now in let n = c.loop-place.place in let r = c.index-rings-place.result in
    let old = c.loop-place.up.items ++ c.loop-place.down.items in let new = c.push_ring.new.up.items ++ c.push_ring.new.down.items in
    ring-added rs n r c.loop-place-test.true c.index-rings-place.is old new c.loop-place.invariant
    (subst (λ xs. AreRingEdges n (length xs) xs old new) c.as_slice.ensures.edges c.in_ok-push_ring.ensures)

pub returns : goal.returns
returns c =
    let rs = c.args.rings.now in let up = c.loop-place.up.items in let down = c.loop-place.down.items in
    let first = c.sort_by_lower_ends.new.edges.items in let second = c.sort_by_lower_ends-2.new.edges.items in
    let listed = all-items rs c.loop-place.place (up ++ down) (let e : c.loop-place.place ≡ length rs = omega arith in e) c.loop-place.invariant in
    let sorted = items-permutation rs (up ++ down) (first ++ second) (IsPermutation-append up first down second c.sort_by_lower_ends.ensures.moved c.sort_by_lower_ends-2.ensures.moved) listed in
    items-permutation rs (first ++ second) c.merge.new.edges.items
    (subst (λ xs. IsPermutation (first ++ xs) c.merge.new.edges.items) c.deref.ensures.value c.in_ok-merge.ensures) sorted
