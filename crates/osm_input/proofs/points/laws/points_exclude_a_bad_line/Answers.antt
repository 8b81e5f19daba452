use Rattle.osm_input.proofs.PointLines.FirstBad.{not_both}
use Rattle.osm_input.proofs.points.laws.points_exclude_a_bad_line.Goals as goal

pub returns : goal.returns
returns c = not_both
