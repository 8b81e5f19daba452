-- All that are gone are found.
use Rattle.std.proofs.Common.{AllPairs, List, ap, arith, filter, length, min, not, subst, sym, true, ◌++◌, ◌+◌, ◌∙◌, ◌≡◌}
use Rattle.std.proofs.lemmas.List.{take_all}
use Rattle.lists.specs.Rising.{count_of}
use Rattle.osm_lattice.specs.declared.seg.Seg.{Seg}
use Rattle.osm_lattice.specs.Seg.{seg_cmp}
use Rattle.osm_segments.specs.Repeats.{segs_of}
use Rattle.coast_sides.specs.KeptSegments.{is_left}
use Rattle.coast_sides.proofs.EndOrders.{are_left}
use Rattle.coast_sides.proofs.end_order.left_among.Goals as goal

pub returns-then-take_away-len : goal.returns-then-take_away-len
returns-then-take_away-len c segs are told among =
    let left = c.args.left.now.survivors.items in let repeats = c.args.left.now.repeats.items in
    let order = c.args.order in let gone = c.in_ok-gone.gone.items in let ends = c.take_away.new.segs.items in
    let found = c.take_away.result in let lent = c.deref.result.now in
    let all = take_all found lent (let h = c.if-take_away-len.true in let l = c.len.ensures in let ok = c.in_ok-gone.gone.ok.0 in let e = ap length c.deref.ensures.value in omega arith) in
    are_left c.orders_are_exact.ensures.segments segs left repeats order gone ends are told among
    (λ s. c.in_ok-gone.ensures s ∙ ap (λ (others : List Seg). min 1 (count_of seg_cmp s (filter (λ t. not (is_left left t)) (segs_of repeats ++ others)))) c.as_slice.ensures)
    (λ s. ap (λ (xs : List Seg). count_of seg_cmp s ends + count_of seg_cmp s xs) (sym c.deref.ensures.value ∙ sym all) ∙ (c.take_away.ensures.counts s ∙ ap (count_of seg_cmp s) c.into_vec-ends.ensures))
    (λ r pairs. c.take_away.ensures.order r (subst (AllPairs (λ s t. r s t ≡ true)) (sym c.into_vec-ends.ensures) pairs)) c.orders_are_exact.ensures.points
