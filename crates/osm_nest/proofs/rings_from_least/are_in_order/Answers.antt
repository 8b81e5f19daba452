-- Each ring and the next are in order.
use Rattle.std.proofs.Common.{get_or, not, rules, ◌≡◌}
use Rattle.std.specs.Ordering.{is_lt}
use Rattle.std.proofs.lemmas.Fn.{always_returns_same}
use Rattle.osm_nest.specs.Nested.{edge_cmp}
use Rattle.osm_nest.proofs.Turns.{sorted-by-neighbours}
use Rattle.osm_nest.proofs.rings_from_least.are_in_order.Goals as goal

pub returns : goal.returns
returns c h d =
    sorted-by-neighbours d c.args.rings.now c.is_sorted_by.result h
    (c.is_sorted_by.ensures.cases (λ r s. not (is_lt (edge_cmp (get_or s 0 d) (get_or r 0 d))))
    (always_returns_same _ (λ a r. r ≡ not (is_lt (edge_cmp (get_or a.1.0.now 0 d) (get_or a.0.now 0 d)))) _ (λ a r f' k. search rules)))
