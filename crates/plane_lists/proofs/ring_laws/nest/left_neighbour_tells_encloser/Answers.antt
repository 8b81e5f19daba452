use Rattle.plane_lists.proofs.Rings.DirectRings.{left_neighbour_alike, left_neighbour_encloses}
use Rattle.plane_lists.proofs.ring_laws.nest.left_neighbour_tells_encloser.Goals as goal

pub returns-clause-outer : goal.returns-clause-outer
returns-clause-outer c rs l h q i k o u a e aa ie next = left_neighbour_encloses rs l h q i k o u a e aa ie next

pub returns-clause-inner : goal.returns-clause-inner
returns-clause-inner c rs l h q r i k m o u a e aa ie next d = left_neighbour_alike rs l h q r i k m o u a e aa ie next d
