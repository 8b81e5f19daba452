use Rattle.plane_lists.proofs.ring_laws.nest.ring_list_is_nest.Goals as goal
use Rattle.plane_lists.proofs.Rings.DirectRings.{ring_has_anchor}
use Rattle.plane_lists.proofs.Rings.RingLists.{ring_list_nest}

pub returns-clause-nest : goal.returns-clause-nest
returns-clause-nest c = ring_list_nest

pub returns-clause-anchor : goal.returns-clause-anchor
returns-clause-anchor c = ring_has_anchor
