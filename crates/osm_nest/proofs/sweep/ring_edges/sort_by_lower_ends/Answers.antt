-- What a sort ensures.
use Rattle.std.proofs.Common.{rules, ◌≡◌}
use Rattle.std.specs.Ordering.{is_lt}
use Rattle.std.proofs.lemmas.Fn.{always_returns_same}
use Rattle.std.proofs.lemmas.List.MinMax.{ranks_by}
use Rattle.std.proofs.lemmas.List.Sorted.{sorted_far}
use Rattle.osm_geom.specs.Point.{point_cmp}
use Rattle.osm_geom.specs.Span.{lower_end}
use Rattle.osm_geom.proofs.GeometryKit.{point_total}
use Rattle.osm_nest.specs.declared.sweep.ring_edge.RingEdge.{RingEdge}
use Rattle.osm_nest.proofs.sweep.ring_edges.sort_by_lower_ends.Goals as goal

pub returns-clause-rise : goal.returns-clause-rise
returns-clause-rise c =
    let o = ranks_by point_total (λ (i : RingEdge). lower_end i.edge.now) in
    sorted_far (λ (i j : RingEdge). is_lt (point_cmp (lower_end i.edge.now) (lower_end j.edge.now))) o c.sort_unstable_by.new.self.items
    (c.sort_unstable_by.ensures.sorted (λ i j. is_lt (point_cmp (lower_end i.edge.now) (lower_end j.edge.now))) o
    (always_returns_same _ (λ a r. is_lt r ≡ is_lt (point_cmp (lower_end a.0.now.edge.now) (lower_end a.1.0.now.edge.now))) _ (λ a r f' k. search rules)))
