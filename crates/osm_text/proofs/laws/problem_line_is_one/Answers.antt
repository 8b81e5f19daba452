use Rattle.osm_text.proofs.LineOne.{problem_line_one}
use Rattle.osm_text.proofs.laws.problem_line_is_one.Goals as goal

pub returns : goal.returns
returns c = problem_line_one c.conflicts_are_told_by_points.ensures.crossing
