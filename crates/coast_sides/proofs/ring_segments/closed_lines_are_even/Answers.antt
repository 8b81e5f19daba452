use Rattle.coast_sides.proofs.EvenRings.{rings_even, survivors_even}
use Rattle.coast_sides.specs.Segments.{all_segments}
use Rattle.coast_sides.proofs.ring_segments.closed_lines_are_even.Goals as goal

pub returns : goal.returns
returns c = λ rings survivors are. survivors_even c.orders_are_exact.ensures.locations c.orders_are_exact.ensures.segments (all_segments rings) survivors (λ p. rings_even c.orders_are_exact.ensures.locations p rings) are
