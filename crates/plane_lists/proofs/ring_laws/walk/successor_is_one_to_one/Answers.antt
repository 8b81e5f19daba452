use Rattle.plane_lists.proofs.ring_laws.walk.successor_is_one_to_one.Goals as goal
use Rattle.plane_lists.proofs.Rings.Successors.{next_leaves, next_one}
use Rattle.plane_lists.proofs.Rings.Turns.{next_alone, next_there}
use Rattle.plane_lists.proofs.Rings.Walks.{walks_there}

pub returns-clause-exists : goal.returns-clause-exists
returns-clause-exists c = next_there

pub returns-clause-one : goal.returns-clause-one
returns-clause-one c = next_alone

pub returns-clause-leaves : goal.returns-clause-leaves
returns-clause-leaves c = next_leaves

pub returns-clause-one_to_one : goal.returns-clause-one_to_one
returns-clause-one_to_one c = next_one

pub returns-clause-walks : goal.returns-clause-walks
returns-clause-walks c = walks_there
