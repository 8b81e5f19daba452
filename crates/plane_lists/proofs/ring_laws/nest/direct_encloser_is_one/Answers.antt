use Rattle.plane_lists.proofs.ring_laws.nest.direct_encloser_is_one.Goals as goal
use Rattle.plane_lists.proofs.Rings.DirectRings.{encloser_exists, encloser_one}

pub returns-clause-exists : goal.returns-clause-exists
returns-clause-exists c = encloser_exists

pub returns-clause-one : goal.returns-clause-one
returns-clause-one c = encloser_one
