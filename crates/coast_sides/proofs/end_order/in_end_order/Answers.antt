-- A list in the order of both ends is in that of the upper ones.
use Rattle.std.proofs.Common.{rules, ◌≡◌}
use Rattle.std.specs.Ordering.{is_lt, ordering_then}
use Rattle.std.proofs.lemmas.Fn.{always_returns_same}
use Rattle.std.proofs.lemmas.List.Sorted.{ranks_by}
use Rattle.osm_lattice.specs.declared.seg.Seg.{Seg}
use Rattle.osm_lattice.specs.Loc.{loc_cmp}
use Rattle.coast_sides.proofs.EndOrders.{both_ends_rise, both_ends_total, by_both_ends}
use Rattle.coast_sides.proofs.end_order.in_end_order.Goals as goal

pub returns-clause-rise : goal.returns-clause-rise
returns-clause-rise c =
    both_ends_rise c.orders_are_exact.ensures.points c.sort_unstable_by.new.self.items
    (c.sort_unstable_by.ensures.sorted (λ s t. is_lt (by_both_ends s t)) (ranks_by both_ends_total (λ (s : Seg). s))
    (always_returns_same _ (λ a r. is_lt r ≡ is_lt (ordering_then (loc_cmp a.0.now.b a.1.0.now.b) (loc_cmp a.0.now.a a.1.0.now.a))) _ (λ a r f' k. search rules)))
