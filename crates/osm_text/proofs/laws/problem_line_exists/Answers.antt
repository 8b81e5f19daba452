use Rattle.osm_text.proofs.LineExists.{line_exists}
use Rattle.osm_text.proofs.laws.problem_line_exists.Goals as goal

pub returns : goal.returns
returns c = line_exists c.meetings_exist.ensures
