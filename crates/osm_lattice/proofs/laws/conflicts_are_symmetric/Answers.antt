use Rattle.osm_lattice.proofs.ConflictCases.{conflict_of-comm}
use Rattle.osm_lattice.proofs.laws.conflicts_are_symmetric.Goals as goal

pub returns : goal.returns
returns c = conflict_of-comm
