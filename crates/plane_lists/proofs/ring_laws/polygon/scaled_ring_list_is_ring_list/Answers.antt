use Rattle.plane_lists.proofs.ring_laws.polygon.scaled_ring_list_is_ring_list.Goals as goal
use Rattle.plane_lists.proofs.Rings.ScaledRings.{scaled_ring_list}

pub returns : goal.returns
returns c = scaled_ring_list
