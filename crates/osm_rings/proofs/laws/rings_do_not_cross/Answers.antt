-- They are a ring list of the plane.
use Rattle.osm_rings.proofs.UncrossedRings.{rings-do-not-cross}
use Rattle.osm_rings.proofs.laws.rings_do_not_cross.Goals as goal

pub returns : goal.returns
returns c = rings-do-not-cross
