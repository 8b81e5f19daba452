use Rattle.job_small.proofs.Filtering.Coastlines.{filter_one}
use Rattle.job_small.proofs.filter.laws.filter_is_one.Goals as goal

pub returns : goal.returns
returns c = filter_one
