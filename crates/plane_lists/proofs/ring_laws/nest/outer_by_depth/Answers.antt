use Rattle.plane_lists.proofs.ring_laws.nest.outer_by_depth.Goals as goal
use Rattle.plane_lists.proofs.Rings.DirectEnclosure.{encloses_law}
use Rattle.plane_lists.proofs.Rings.DirectRings.{enclosing_rings_balance}
use Rattle.plane_lists.proofs.Rings.Nests.{outer_depth}
use Rattle.plane_lists.proofs.Rings.RingLists.{outer_down}

pub returns-clause-down : goal.returns-clause-down
returns-clause-down c = outer_down

pub returns-clause-depth : goal.returns-clause-depth
returns-clause-depth c = outer_depth

pub returns-clause-encloses : goal.returns-clause-encloses
returns-clause-encloses c = encloses_law

pub returns-clause-balance : goal.returns-clause-balance
returns-clause-balance c = enclosing_rings_balance
