-- One more row.
use Rattle.std.proofs.Common.{List, Option, Some, arith, filter, get_or, length, subst, sym, take, ℕ, ◌-◌, ◌<◌, ◌≡◌, ◌⊎◌}
use Rattle.std.specs.Prelude.{IfSome}
use Rattle.lists.specs.Member.{In}
use Rattle.osm_geom.specs.declared.edge.Edge.{Edge}
use Rattle.osm_geom.specs.declared.point.Point.{Point}
use Rattle.osm_geom.specs.Span.{lower_end}
use Rattle.osm_nest.specs.declared.sweep.ring_edge.RingEdge.{RingEdge}
use Rattle.osm_nest.specs.RingLists.{AreRings}
use Rattle.osm_nest.specs.SweptEdges.{AreSlopingEdges, IsRowPut, StartsRise, is_within}
use Rattle.lists.proofs.ListsKit.{item-in}
use Rattle.osm_nest.proofs.KnownEnclosers.{none-under-way, status-tells}
use Rattle.osm_nest.proofs.SweptHeights.{IsRowPassed, IsUnderWay, passed-grows, passed-items, passed-on, passed-whole}
use Rattle.osm_nest.proofs.sweep.enclosers.sweep.Goals as goal

-- what the two calls of a row ensure
passed-by : (rs : List (List Edge)) (are : AreRings rs) (items : List RingEdge) (of : AreSlopingEdges rs items) (rise : StartsRise items) → (next to : ℕ) (at low : Point) → at ≡ low → (status left new : List RingEdge) →
    filter (is_within at) left ≡ filter (is_within at) status → ((x : RingEdge) → In x left → In x status) → (row : Option ℕ) → row ≡ Some to →
    IfSome row (λ to. IsRowPut at items next to (filter (is_within at) left) (filter (is_within at) new)) → IfSome row (λ to. (x : RingEdge) → In x new → (In x left) ⊎ In x (take to items)) →
    IsRowPassed rs are items of rise next to low status new
passed-by rs are items of rise next to at low lower status left new kept stays row is put comes =
    subst (λ o. IsRowPassed rs are items of rise next to o status new) lower record {
      left = left;
      kept = kept;
      stays = stays;
      put = subst (λ o. IfSome o (λ to. IsRowPut at items next to (filter (is_within at) left) (filter (is_within at) new))) is put;
      comes = subst (λ o. IfSome o (λ to. (x : RingEdge) → In x new → (In x left) ⊎ In x (take to items))) is comes;
    }

pub loop-next-init : goal.loop-next-init
loop-next-init c = (
  omega arith,
  omega arith,
  c.requires.known,
  λ are of rise. subst (IsUnderWay c.args.rings.now are c.args.edges.now of rise 0) (sym c.requires.status) (none-under-way c.args.rings.now are c.args.edges.now of rise),
)

pub settle_row-settled-requires-clause-tells : goal.settle_row-settled-requires-clause-tells
settle_row-settled-requires-clause-tells c a an level =
    let rs = c.args.rings.now in let are = c.requires.rings in let items = c.args.edges.now in let of = c.requires.edges in let rise = c.requires.rise in
    let next = c.loop-next.next in let first = c.index-edges-next.result in let new = c.enter_row.new.status in
    let inside : next < length items = omega arith in
    let here : first ≡ get_or items next first = c.index-edges-next.is in
    let passed = passed-by rs are items of rise next c.in-Some.to c.lower_end-at.result.now (lower_end first.edge.now) c.lower_end-at.ensures
    c.loop-next.status c.leave-gone.new.status new c.leave-gone.ensures.within c.leave-gone.ensures.members _ c.in-Some.is c.in_ok-to.ensures.put c.in_ok-to.ensures.members in
    let way = c.loop-next.invariant.3 are of rise in
    status-tells rs are items of first (item-in items next first inside here) new
    (passed-whole rs are items of rise next c.loop-next.status new way first inside here c.in-Some.to passed)
    (passed-items rs are items of rise next c.loop-next.status new way first inside here c.in-Some.to passed) a an level

pub loop-next-smaller : goal.loop-next-smaller
loop-next-smaller c =
    let rs = c.args.rings.now in let are = c.requires.rings in let items = c.args.edges.now in let of = c.requires.edges in let rise = c.requires.rise in
    let next = c.loop-next.next in let first = c.index-edges-next.result in let new = c.enter_row.new.status in
    let inside : next < length items = omega arith in
    let here : first ≡ get_or items next first = c.index-edges-next.is in
    let passed = passed-by rs are items of rise next c.in-Some.to c.lower_end-at.result.now (lower_end first.edge.now) c.lower_end-at.ensures
    c.loop-next.status c.leave-gone.new.status new c.leave-gone.ensures.within c.leave-gone.ensures.members _ c.in-Some.is c.in_ok-to.ensures.put c.in_ok-to.ensures.members in
    let grows = passed-grows rs are items of rise next c.loop-next.status new (c.loop-next.invariant.3 are of rise) first inside here c.in-Some.to passed in
    let within = passed.put.within in
    let less : length items - c.in-Some.to < length items - next = omega (arith, grows, within) in
    less

pub loop-next-preserved : goal.loop-next-preserved
loop-next-preserved c =
    let rs = c.args.rings.now in let items = c.args.edges.now in
    let next = c.loop-next.next in let first = c.index-edges-next.result in let new = c.enter_row.new.status in
    let inside : next < length items = omega arith in
    let here : first ≡ get_or items next first = c.index-edges-next.is in
    let passed = λ (are : AreRings rs) (of : AreSlopingEdges rs items) (rise : StartsRise items).
    passed-by rs are items of rise next c.in-Some.to c.lower_end-at.result.now (lower_end first.edge.now) c.lower_end-at.ensures
    c.loop-next.status c.leave-gone.new.status new c.leave-gone.ensures.within c.leave-gone.ensures.members _ c.in-Some.is c.in_ok-to.ensures.put c.in_ok-to.ensures.members in (
      (passed c.requires.rings c.requires.edges c.requires.rise).put.within,
      c.settle_row-settled.ensures.within,
      c.settle_row-settled.ensures.known,
      λ are of rise. passed-on rs are items of rise next c.loop-next.status new (c.loop-next.invariant.3 are of rise) first inside here c.in-Some.to (passed are of rise),
    )
