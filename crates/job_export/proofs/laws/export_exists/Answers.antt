use Rattle.job_export.proofs.Exports.{export_there}
use Rattle.job_export.proofs.laws.export_exists.Goals as goal

pub returns : goal.returns
returns c = λ settings objects. export_there settings objects c.outcome_exists.ensures c.problem_line_exists.ensures
