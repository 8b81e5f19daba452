use Rattle.job_small.proofs.Locating.OneLocate.{locate_there}
use Rattle.job_small.proofs.locate.laws.locates_exist.Goals as goal

pub returns : goal.returns
returns c = locate_there c.found_exists.ensures c.texts_have_points_or_a_bad_line.ensures
