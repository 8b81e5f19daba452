-- What a sort ensures.
use Rattle.std.proofs.Common.{get_or, rules, ◌≡◌}
use Rattle.std.specs.Ordering.{is_lt}
use Rattle.std.proofs.lemmas.Fn.{always_returns_same}
use Rattle.osm_nest.specs.Nested.{edge_cmp}
use Rattle.osm_nest.proofs.Turns.{first-ranks}
use Rattle.osm_nest.proofs.rings_from_least.sorted.Goals as goal

pub returns-clause-order : goal.returns-clause-order
returns-clause-order c d =
    c.in_ok-sort_by.ensures.sorted (λ b e. is_lt (edge_cmp (get_or b.ring 0 d) (get_or e.ring 0 d))) (first-ranks d)
    (always_returns_same _ (λ a r. is_lt r ≡ is_lt (edge_cmp (get_or a.0.now.ring 0 d) (get_or a.1.0.now.ring 0 d))) _ (λ a r f' k. search rules))
