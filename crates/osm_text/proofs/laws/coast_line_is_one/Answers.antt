use Rattle.osm_text.proofs.LineOne.{coast_line_one}
use Rattle.osm_text.proofs.laws.coast_line_is_one.Goals as goal

pub returns : goal.returns
returns c = coast_line_one c.conflicts_are_told_by_points.ensures.crossing
