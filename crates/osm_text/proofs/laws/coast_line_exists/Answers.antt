use Rattle.osm_text.proofs.CoastLineExists.{coast_line_there}
use Rattle.osm_text.proofs.laws.coast_line_exists.Goals as goal

pub returns : goal.returns
returns c = coast_line_there c.meetings_exist.ensures
