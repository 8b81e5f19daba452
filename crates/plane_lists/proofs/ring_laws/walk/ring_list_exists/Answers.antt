use Rattle.plane_lists.proofs.ring_laws.walk.ring_list_exists.Goals as goal
use Rattle.plane_lists.specs.Rings.Stack.{cut_all}
use Rattle.plane_lists.proofs.Rings.Pieces.{pieces_same}
use Rattle.plane_lists.proofs.Rings.Rotations.{rotated_rings}
use Rattle.plane_lists.proofs.Rings.Stacks.{stack_cut_all, stack_cuts, stack_rings}
use Rattle.plane_lists.proofs.Rings.Walks.{walks_there}

pub returns-clause-cuts : goal.returns-clause-cuts
returns-clause-cuts c = stack_cuts

pub returns-clause-stack : goal.returns-clause-stack
returns-clause-stack c = stack_rings

pub returns-clause-exists : goal.returns-clause-exists
returns-clause-exists c = λ es sd. let w = walks_there es sd in (cut_all w.0, stack_rings es sd w.0 w.1, pieces_same es sd w.0 (cut_all w.0) w.1 (stack_cut_all es sd w.0 w.1))

pub returns-clause-rotated : goal.returns-clause-rotated
returns-clause-rotated c = rotated_rings
