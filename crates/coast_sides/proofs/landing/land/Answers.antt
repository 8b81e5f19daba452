-- What is left of rings without conflicts may be directed; and cancelling rests on counts alone.
use Rattle.std.specs.Prelude.{IfSome, Option}
use Rattle.std.proofs.Common.{IsPermutation, List, ap, filter, map, subst, sym, ◌∙◌, ◌≡◌}
use Rattle.osm_geom.specs.declared.edge.Edge.{Edge}
use Rattle.lists.specs.Rising.{count_of}
use Rattle.osm_lattice.specs.declared.loc.Loc.{Loc}
use Rattle.osm_lattice.specs.Seg.{seg_cmp}
use Rattle.osm_lattice.specs.declared.seg.Seg.{Seg}
use Rattle.osm_segments.specs.Counts.{AreSurvivors}
use Rattle.osm_segments.specs.Repeats.{AreRepeats}
use Rattle.osm_segments.specs.Sweep.{AreByEnds}
use Rattle.osm_segments.specs.declared.counts.Cancelled.{Cancelled}
use Rattle.osm_segments.specs.declared.counts.Repeat.{Repeat}
use Rattle.coast_rings.specs.declared.ring.CoastRing.{CoastRing}
use Rattle.coast_sides.specs.declared.kept_segments.EndOrder.{EndOrder}
use Rattle.coast_sides.specs.KeptSegments.{AreByEndsAmong, AreKeptSegments}
use Rattle.coast_sides.specs.Junctions.{AllRunOn, AreJunctions}
use Rattle.coast_sides.specs.Segments.{AreRingSegments, all_segments}
use Rattle.coast_sides.specs.WrongWays.{runs_against}
use Rattle.coast_sides.proofs.Clearing.{clear_left, none_conflict}
use Rattle.coast_sides.proofs.LandJunctions.{land_junctions, land_runs_on}
use Rattle.coast_sides.proofs.TakenAway.{left_alike, same_counts, told_alike}
use Rattle.coast_sides.proofs.landing.land.Goals as goal

-- the segments that cancel are counted like those of the rings
alike : (rings : List CoastRing) (given segs : List Seg) → given ≡ segs → AreRingSegments rings segs → same_counts given (all_segments rings)
alike rings given segs same are = λ s. ap (count_of seg_cmp s) same ∙ are s

survivors_are : (rings : List CoastRing) (given segs left : List Seg) → given ≡ segs → AreRingSegments rings segs → AreSurvivors given left → AreSurvivors (all_segments rings) left
survivors_are rings given segs left same are survive = left_alike given (all_segments rings) left (alike rings given segs same are) survive

-- what is left is in the order of upper ends
ends_are : (rings : List CoastRing) (given segs : List Seg) (left : Cancelled) (order : Option EndOrder) (ends : List Seg) → given ≡ segs → AreKeptSegments rings (record { segs = segs; by_ends = order }) → AreSurvivors given left.survivors.items → AreRepeats given left.repeats.items
    → ((all : List Seg) → AreSurvivors all left.survivors.items → AreRepeats all left.repeats.items → IfSome order (AreByEndsAmong all) → AreByEnds left.survivors.items ends) → AreByEnds left.survivors.items ends
ends_are rings given segs left order ends same are survive told sorted =
    sorted (all_segments rings) (survivors_are rings given segs left.survivors.items same are.segs survive) (told_alike given (all_segments rings) left.repeats.items (alike rings given segs same are.segs) told) are.by_ends

pub junctions-requires : goal.junctions-requires
junctions-requires c =
    subst (IsPermutation c.in_ok-left.left.survivors.items) (sym c.deref.ensures.value)
    (ends_are c.args.kept.now c.into_vec.result.items c.args.segs.segs c.in_ok-left.left c.args.segs.by_ends c.in_ok-ends.ends.items c.into_vec.ensures c.requires.segments c.in_ok-left.ensures.survivors c.in_ok-left.ensures.repeats c.in_ok-ends.ensures).moved

pub land_edges-requires-clause-ends : goal.land_edges-requires-clause-ends
land_edges-requires-clause-ends c =
    ends_are c.args.kept.now c.into_vec.result.items c.args.segs.segs c.in_ok-left.left c.args.segs.by_ends c.in_ok-ends.ends.items c.into_vec.ensures c.requires.segments c.in_ok-left.ensures.survivors c.in_ok-left.ensures.repeats c.in_ok-ends.ensures

pub land_edges-requires-clause-clear : goal.land_edges-requires-clause-clear
land_edges-requires-clause-clear c =
    let segs = all_segments c.args.kept.now in
    let left = c.in_ok-left.left.survivors.items in
    none_conflict left (clear_left c.orders_are_exact.ensures.segments segs left c.requires.clear (left_alike c.into_vec.result.items segs left (alike c.args.kept.now c.into_vec.result.items c.args.segs.segs c.into_vec.ensures c.requires.segments.segs) c.in_ok-left.ensures.survivors))

pub land_edges-requires-clause-even : goal.land_edges-requires-clause-even
land_edges-requires-clause-even c =
    let segs = all_segments c.args.kept.now in
    let left = c.in_ok-left.left.survivors.items in
    c.closed_lines_are_even.ensures c.args.kept.now left (left_alike c.into_vec.result.items segs left (alike c.args.kept.now c.into_vec.result.items c.args.segs.segs c.into_vec.ensures c.requires.segments.segs) c.in_ok-left.ensures.survivors)

pub wrong_ways-requires-clause-junctions : goal.wrong_ways-requires-clause-junctions
wrong_ways-requires-clause-junctions c =
    let segs = all_segments c.args.kept.now in
    let left = c.in_ok-left.left.survivors.items in
    let are = survivors_are c.args.kept.now c.into_vec.result.items c.args.segs.segs left c.into_vec.ensures c.requires.segments.segs c.in_ok-left.ensures.survivors in
    let found = land_junctions c.orders_are_exact.ensures.locations c.orders_are_exact.ensures.segments segs left are c.in_ok-edges.edges (c.in_ok-edges.ensures segs are) c.in_ok-junctions.junctions.items c.lattice_edges_are_whole.ensures.sided
    c.in_ok-junctions.ensures.order c.in_ok-junctions.ensures.busy in
    subst (λ (edges : List Edge). AreJunctions edges c.deref-2.result.now) (sym c.as_slice.ensures) (subst (AreJunctions c.in_ok-edges.edges) (sym c.deref-2.ensures.value) found)

pub wrong_ways-requires-clause-along : goal.wrong_ways-requires-clause-along
wrong_ways-requires-clause-along c =
    let kept = c.args.kept.now in
    let left = c.in_ok-left.left.survivors.items in
    let repeats = c.in_ok-left.left.repeats.items in
    let are = survivors_are kept c.into_vec.result.items c.args.segs.segs left c.into_vec.ensures c.requires.segments.segs c.in_ok-left.ensures.survivors in
    let told = told_alike c.into_vec.result.items (all_segments kept) repeats (alike kept c.into_vec.result.items c.args.segs.segs c.into_vec.ensures c.requires.segments.segs) c.in_ok-left.ensures.repeats in
    let found = land_runs_on c.orders_are_exact.ensures.locations c.orders_are_exact.ensures.segments kept left are repeats told c.in_ok-edges.edges (c.in_ok-edges.ensures (all_segments kept) are) c.in_ok-junctions.junctions.items
    c.in_ok-junctions.ensures.repeated in
    subst (λ (edges : List Edge). AllRunOn edges c.deref-2.result.now kept) (sym c.as_slice.ensures) (subst (λ (nodes : List Loc). AllRunOn c.in_ok-edges.edges nodes kept) (sym c.deref-2.ensures.value) found)

pub returns : goal.returns
returns c =
    let segs = all_segments c.args.kept.now in
    let left = c.in_ok-left.left in
    record {
      edges = c.in_ok-edges.ensures segs (left_alike c.into_vec.result.items segs left.survivors.items (alike c.args.kept.now c.into_vec.result.items c.args.segs.segs c.into_vec.ensures c.requires.segments.segs) c.in_ok-left.ensures.survivors);
      repeats = subst (λ (repeats : List Repeat). AreRepeats segs repeats) (sym c.from_vec.ensures) (told_alike c.into_vec.result.items segs left.repeats.items (alike c.args.kept.now c.into_vec.result.items c.args.segs.segs c.into_vec.ensures c.requires.segments.segs) c.in_ok-left.ensures.repeats);
      wrong_way = c.in_ok-wrong_way.ensures ∙ ap (λ (edges : List Edge). map (λ (ring : CoastRing). ring.name) (filter (runs_against edges) c.args.kept.now)) c.as_slice.ensures;
    }
