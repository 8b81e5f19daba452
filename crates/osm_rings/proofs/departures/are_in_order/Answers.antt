-- Each and the next are in order, and so all.
use Rattle.std.proofs.Common.{not, rules, ◌≡◌}
use Rattle.std.proofs.lemmas.Fn.{always_returns_same}
use Rattle.osm_rings.specs.Departures.{stands_before}
use Rattle.osm_rings.proofs.DeparturesRound.{adjacent-sorted, sorted-rising, sorted-round}
use Rattle.osm_rings.proofs.departures.are_in_order.Goals as goal

pub returns-clause-rising : goal.returns-clause-rising
returns-clause-rising c h = sorted-rising c.args.departures.now (adjacent-sorted c.args.departures.now c.is_sorted_by.result h (c.is_sorted_by.ensures.cases (λ v w. not (stands_before w v)) (always_returns_same _ (λ a r. r ≡ not (stands_before a.1.0.now a.0.now)) _ (λ a r f' k. search rules))))

pub returns-clause-round : goal.returns-clause-round
returns-clause-round c h = sorted-round c.args.departures.now (adjacent-sorted c.args.departures.now c.is_sorted_by.result h (c.is_sorted_by.ensures.cases (λ v w. not (stands_before w v)) (always_returns_same _ (λ a r. r ≡ not (stands_before a.1.0.now a.0.now)) _ (λ a r f' k. search rules))))
