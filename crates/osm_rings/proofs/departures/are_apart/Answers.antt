-- Each leaves a later point than the one before it.
use Rattle.std.proofs.Common.{rules, ◌≡◌}
use Rattle.std.proofs.lemmas.Fn.{always_returns_same}
use Rattle.osm_rings.proofs.ApartEdges.{apart-by-answer}
use Rattle.osm_rings.proofs.Starts.{lt}
use Rattle.osm_rings.proofs.departures.are_apart.Goals as goal

pub returns : goal.returns
returns c h es are = apart-by-answer es c.args.departures.now are c.is_sorted_by.result h
    (c.is_sorted_by.ensures.cases (λ v w. lt v.edge.now.from w.edge.now.from) (always_returns_same _ (λ a r. r ≡ lt a.0.now.edge.now.from a.1.0.now.edge.now.from) _ (λ a r f' k. search rules)))
