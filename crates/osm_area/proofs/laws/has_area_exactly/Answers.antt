-- By what no problems mean, and since survivors and odd nodes are determined.
use Rattle.osm_area.proofs.SoundAreas.{has-area-exactly}
use Rattle.osm_area.proofs.laws.has_area_exactly.Goals as goal

pub returns : goal.returns
returns c = has-area-exactly
