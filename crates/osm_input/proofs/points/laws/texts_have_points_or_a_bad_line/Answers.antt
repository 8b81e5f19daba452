use Rattle.osm_input.proofs.PointLines.FirstBad.{has_points_or_bad}
use Rattle.osm_input.proofs.points.laws.texts_have_points_or_a_bad_line.Goals as goal

pub returns : goal.returns
returns c = has_points_or_bad
