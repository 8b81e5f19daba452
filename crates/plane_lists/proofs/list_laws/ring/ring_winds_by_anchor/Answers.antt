use Rattle.plane_lists.proofs.list_laws.ring.ring_winds_by_anchor.Goals as goal
use Rattle.plane_lists.proofs.Lists.Anchors.{ring_by_anchor, some-anchor}

pub returns-clause-anchor : goal.returns-clause-anchor
returns-clause-anchor c = λ x es i p. some-anchor es x i p

pub returns-clause-winding : goal.returns-clause-winding
returns-clause-winding c = ring_by_anchor
