-- Those that are gone, each once.
use Rattle.std.proofs.Common.{List, ℕ, ap, arith, cond, filter, get_or, min, not, subst, sym, ◌++◌, ◌+◌, ◌<◌, ◌∙◌}
use Rattle.std.specs.List.Sorted.{IsSorted}
use Rattle.std.specs.Ordering.{is_eq, is_lt, ordering_reverse}
use Rattle.std.proofs.lemmas.List.Sorted.{sum_by-IsPermutation}
use Rattle.lists.specs.Rising.{count_of}
use Rattle.osm_lattice.specs.declared.seg.Seg.{Seg}
use Rattle.osm_lattice.specs.Seg.{seg_cmp}
use Rattle.osm_segments.specs.Repeats.{segs_of}
use Rattle.osm_segments.specs.declared.counts.Repeat.{Repeat}
use Rattle.coast_sides.specs.KeptSegments.{is_left}
use Rattle.coast_sides.proofs.EvenRings.{seg_cmp_total}
use Rattle.coast_sides.proofs.end_order.gone_by_ends.Goals as goal

pub gone_of-requires : goal.gone_of-requires
gone_of-requires c = subst (IsSorted seg_cmp) (sym c.deref-3.ensures.value) (λ k d h l. let next : k < k + 1 = omega arith in ap is_lt (seg_cmp_total.antisymm (get_or c.args.left.now.survivors.items (k + 1) d) (get_or c.args.left.now.survivors.items k d) ∙ ap ordering_reverse (c.requires k (k + 1) d next l)))

pub returns : goal.returns
returns c s =
    let others = c.args.others.now in
    let gone = λ (left segs : List Seg). min 1 (count_of seg_cmp s (filter (λ t. not (is_left left t)) segs)) in
    sum_by-IsPermutation (λ (t : Seg). cond {A = ℕ} (is_eq (seg_cmp t s)) 1 0) c.distinct_of.result.items c.in_end_order.result.items c.in_end_order.ensures.moved
    ∙ (c.distinct_of.ensures.once s ∙ (ap (λ xs. min 1 (count_of seg_cmp s xs)) c.in_ok-gone.ensures
    ∙ (ap (λ left. gone left c.deref-2.result.now) c.deref-3.ensures.value ∙ ap (gone c.args.left.now.survivors.items) (c.deref-2.ensures.value ∙ (c.in_ok-segs.ensures ∙ ap (λ (repeats : List Repeat). segs_of repeats ++ others) c.deref.ensures.value)))))
