use Rattle.osm_lattice.proofs.Overlaps.{shared_rising}
use Rattle.osm_lattice.proofs.meetings.overlap.Goals as goal

pub invariant_of-result : goal.invariant_of-result
invariant_of-result c = record { rising = rw (c.max.ensures, c.min.ensures) (shared_rising c.args.s c.args.t c.requires) }
