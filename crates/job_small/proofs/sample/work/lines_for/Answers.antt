use Rattle.std.proofs.Common.{ap, map, refl}
use Rattle.std.proofs.lemmas.Result.{IfOk-weaker}
use Rattle.osm_job.specs.Sent.{to_output}
use Rattle.job_small.proofs.sample.work.lines_for.Goals as goal

pub returns : goal.returns
returns c =
    IfOk-weaker c.lines_of.result _ _ (λ lines is. record { summary = c.in_ok-summary.summary; right = c.in_ok-summary.ensures; written = ap (map to_output) is; ended = refl }) c.lines_of.ensures
