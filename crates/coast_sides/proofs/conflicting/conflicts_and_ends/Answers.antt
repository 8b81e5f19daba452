-- A list in another order has each segment as often.
use Rattle.std.proofs.Common.{ℕ, ap, cond, ◌∙◌}
use Rattle.std.specs.Ordering.{is_eq}
use Rattle.std.proofs.lemmas.List.Sorted.{sum_by-IsPermutation}
use Rattle.lists.specs.Rising.{count_of}
use Rattle.osm_lattice.specs.declared.seg.Seg.{Seg}
use Rattle.osm_lattice.specs.Seg.{seg_cmp}
use Rattle.coast_sides.proofs.conflicting.conflicts_and_ends.Goals as goal

pub returns-clause-once : goal.returns-clause-once
returns-clause-once c s =
    sum_by-IsPermutation (λ (t : Seg). cond {A = ℕ} (is_eq (seg_cmp t s)) 1 0) c.in_ok-from_slice.field-0.items c.in_end_order-ends.result.items c.in_end_order-ends.ensures.moved
    ∙ (ap (count_of seg_cmp s) (c.in_ok-from_slice.ensures.items ∙ c.deref.ensures.value) ∙ c.distinct_of-once.ensures.once s)
