use Rattle.job_small.proofs.Locating.OneLocate.{one_locate}
use Rattle.job_small.proofs.locate.laws.locate_is_one.Goals as goal

pub returns : goal.returns
returns c = one_locate c.found_is_one.ensures c.first_bad_line_is_one.ensures c.points_exclude_a_bad_line.ensures
