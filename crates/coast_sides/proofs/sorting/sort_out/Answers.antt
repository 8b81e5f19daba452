-- What the looked up segments tell is the definition.
use Rattle.std.proofs.Common.{Bool, List, ap, arith, filter, min, not, refl, subst, sym, ◌+◌, ◌∙◌, ◌≡◌}
use Rattle.std.specs.BTreeSet.{contains}
use Rattle.std.specs.List.{list_any}
use Rattle.lists.specs.Rising.{count_of}
use Rattle.osm_lattice.specs.Seg.{seg_cmp}
use Rattle.osm_lattice.specs.declared.seg.Seg.{Seg}
use Rattle.osm_segments.specs.Sweep.{EndsRise}
use Rattle.coast_rings.specs.declared.ring.CoastRing.{CoastRing}
use Rattle.coast_sides.specs.Segments.{all_segments, segments_round}
use Rattle.coast_sides.specs.Sorting.{AreConflicts}
use Rattle.coast_sides.proofs.Conflicts.{kept_clear, sorted_are}
use Rattle.coast_sides.proofs.TakenAway.{pairs_alike, parted_counts, same_counts}
use Rattle.coast_sides.proofs.sorting.sort_out.Goals as goal

pub returns-clause-sorted : goal.returns-clause-sorted
returns-clause-sorted c =
    let rings = c.args.rings.now in
    let all = all_segments rings in
    let ordered = c.in_order-segs.result.items in
    let same : same_counts ordered all = λ s. c.in_order-segs.ensures s ∙ ap (count_of seg_cmp s) c.in_ok-all_segments.ensures in
    let lent = c.in_ok-from_slice.ensures.items ∙ c.deref.ensures.value in
    let pairs = pairs_alike ordered all c.in_ok-pairs.pairs.items same (subst (λ (segs : List Seg). AreConflicts segs c.in_ok-pairs.pairs.items) lent c.in_ok-pairs.ensures.pairs) in
    sorted_are c.orders_are_exact.ensures.segments c.conflicts_are_symmetric.ensures rings all all c.in_ok-pairs.pairs.items c.deref-2.result.now c.from_vec-3.result
    (contains seg_cmp c.in_ok-conflicting.conflicting) c.in_ok-kept.kept c.in_ok-kept.left_out c.new.result
    refl refl pairs c.deref-2.ensures.value c.in_ok-conflicting.ensures c.in_ok-kept.ensures.free c.in_ok-kept.ensures.along c.from_vec-3.ensures c.new.ensures

pub returns-clause-clear : goal.returns-clause-clear
returns-clause-clear c = kept_clear c.args.rings.now c.in_ok-kept.kept (returns-clause-sorted c).kept

-- the segments of all rings are those of the kept ones and the others
parted_segs : (rings kept left_out : List CoastRing) (along : CoastRing → Bool) (segs others : List Seg) → kept ≡ filter (λ ring. not (along ring)) rings → left_out ≡ filter along rings → same_counts segs (all_segments rings) → same_counts others (all_segments left_out)
    → (s : Seg) → count_of seg_cmp s segs ≡ count_of seg_cmp s (all_segments kept) + count_of seg_cmp s others
parted_segs rings kept left_out along segs others is_kept is_left same same_2 s =
    let counted = λ (some : List CoastRing). count_of seg_cmp s (all_segments some) in
    let kept_1 = ap counted is_kept in
    let left_1 = ap counted is_left in
    let parts = parted_counts along rings s in
    let all = same s in
    let away = same_2 s in
    omega arith

pub segments_kept-requires : goal.segments_kept-requires
segments_kept-requires c s =
    let along : CoastRing → Bool = λ ring. list_any (contains seg_cmp c.in_ok-conflicting.conflicting) (segments_round ring.path) in
    let all = λ (s : Seg). c.in_order-segs.ensures s ∙ ap (count_of seg_cmp s) c.in_ok-all_segments.ensures in
    let away = λ (s : Seg). ap (count_of seg_cmp s) c.deref-3.ensures.value ∙ (c.in_order-others.ensures s ∙ ap (count_of seg_cmp s) (c.in_ok-all_segments-2.ensures ∙ ap all_segments c.as_slice.ensures)) in
    parted_segs c.args.rings.now c.as_slice-2.result.now c.in_ok-kept.left_out along c.in_order-segs.result.items c.deref-3.result.now (c.as_slice-2.ensures ∙ c.in_ok-kept.ensures.free) c.in_ok-kept.ensures.along all away s

pub returns-clause-segments : goal.returns-clause-segments
returns-clause-segments c =
    let along : CoastRing → Bool = λ ring. list_any (contains seg_cmp c.in_ok-conflicting.conflicting) (segments_round ring.path) in
    let all = λ (s : Seg). c.in_order-segs.ensures s ∙ ap (count_of seg_cmp s) c.in_ok-all_segments.ensures in
    let away = λ (s : Seg). ap (count_of seg_cmp s) c.from_vec-2.ensures ∙ (c.in_order-others.ensures s ∙ ap (count_of seg_cmp s) (c.in_ok-all_segments-2.ensures ∙ ap all_segments c.as_slice.ensures)) in
    let parts = parted_segs c.args.rings.now c.in_ok-kept.kept c.in_ok-kept.left_out along c.in_order-segs.result.items c.from_vec-2.result c.in_ok-kept.ensures.free c.in_ok-kept.ensures.along all away in
    record {
      segs = λ s. c.in_ok-segs.ensures s ∙ ap (λ (kept : List CoastRing). count_of seg_cmp s (all_segments kept)) c.as_slice-2.ensures;
      by_ends = record {
        once = λ s. ap (count_of seg_cmp s) c.from_vec.ensures ∙ (c.in_ok-pairs.ensures.once s ∙ ap (min 1) (ap (count_of seg_cmp s) (c.in_ok-from_slice.ensures.items ∙ c.deref.ensures.value) ∙ parts s));
        rise = subst EndsRise (sym c.from_vec.ensures) c.in_ok-pairs.ensures.rise;
      };
    }
