use Rattle.osm_input.proofs.PointLines.FirstBad.{bad_one}
use Rattle.osm_input.proofs.points.laws.first_bad_line_is_one.Goals as goal

pub returns : goal.returns
returns c = bad_one
