use Rattle.std.proofs.Common.{◌∙◌, ap}
use Rattle.std.proofs.lemmas.Result.{IfOk-weaker}
use Rattle.job_small.specs.Locating.Lines.{point_lines}
use Rattle.job_small.proofs.locate.work.lines_for.Goals as goal

pub returns : goal.returns
returns c =
    IfOk-weaker c.lines_of.result _ _ (λ lines is. record { found = c.in_ok-found.found; right = c.in_ok-found.ensures; told = is ∙ ap point_lines c.as_slice.ensures }) c.lines_of.ensures
