use Rattle.osm_lattice.proofs.CrossingMeets.{meeting_exists}
use Rattle.osm_lattice.proofs.laws.meetings_exist.Goals as goal

pub returns : goal.returns
returns c = meeting_exists
