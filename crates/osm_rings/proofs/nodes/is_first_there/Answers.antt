-- The departure before it tells.
use Rattle.std.proofs.Common.{sym, ◌∙◌}
use Rattle.osm_rings.proofs.Starts.{first-of-all, first-there, same-there}
use Rattle.osm_rings.proofs.nodes.is_first_there.Goals as goal

pub returns-then-place-eq0-clause-first : goal.returns-then-place-eq0-clause-first
returns-then-place-eq0-clause-first c same d = first-of-all c.args.departures.now c.requires.rising c.args.place c.if-place-eq0.true c.requires.inside d

pub returns-else-place-eq0-clause-first : goal.returns-else-place-eq0-clause-first
returns-else-place-eq0-clause-first c up d =
    first-there c.args.departures.now c.requires.rising c.args.place c.index-departures-place.result c.index-departures-place-else-place-eq0.result c.if-place-eq0.false c.requires.inside c.index-departures-place.is c.index-departures-place-else-place-eq0.is (sym c.leaves_before.ensures ∙ up) d

pub returns-else-place-eq0-clause-later : goal.returns-else-place-eq0-clause-later
returns-else-place-eq0-clause-later c none d =
    same-there c.args.departures.now c.requires.rising c.args.place c.index-departures-place.result c.index-departures-place-else-place-eq0.result c.if-place-eq0.false c.requires.inside c.index-departures-place.is c.index-departures-place-else-place-eq0.is (sym c.leaves_before.ensures ∙ none) d
