-- A first departure gives its place, another the number of the one before it.
use Rattle.std.proofs.Common.{subst}
use Rattle.osm_rings.specs.Departures.{IsFirstAt}
use Rattle.osm_rings.proofs.nodes.number_at.Goals as goal

pub returns-then-is_first_there : goal.returns-then-is_first_there
returns-then-is_first_there c d = c.is_first_there.ensures.first c.if-is_first_there.true d

pub returns : goal.returns
returns c d =
    let ws = c.args.departures.now in
    subst (λ p. IsFirstAt ws p c.args.before) (c.is_first_there.ensures.later c.if-is_first_there.false d) (c.requires.before d (c.is_first_there.ensures.some c.if-is_first_there.false))
