-- What a sort ensures.
use Rattle.std.proofs.Common.{rules, ◌≡◌}
use Rattle.std.specs.Ordering.{is_lt}
use Rattle.std.proofs.lemmas.Fn.{always_returns_same}
use Rattle.osm_rings.specs.Departures.{stands_before}
use Rattle.osm_rings.proofs.DeparturesRound.{departures-order, sorted-rising, sorted-round}
use Rattle.osm_rings.proofs.departures.sorted.Goals as goal

pub returns-clause-rising : goal.returns-clause-rising
returns-clause-rising c = sorted-rising c.sort_by.new.self.items (c.in_ok-sort_by.ensures.sorted stands_before departures-order (always_returns_same _ (λ a r. is_lt r ≡ stands_before a.0.now a.1.0.now) _ (λ a r f' k. search rules)))

pub returns-clause-round : goal.returns-clause-round
returns-clause-round c = sorted-round c.sort_by.new.self.items (c.in_ok-sort_by.ensures.sorted stands_before departures-order (always_returns_same _ (λ a r. is_lt r ≡ stands_before a.0.now a.1.0.now) _ (λ a r f' k. search rules)))
