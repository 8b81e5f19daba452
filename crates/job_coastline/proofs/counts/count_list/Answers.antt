use Rattle.std.proofs.lemmas.Result.{IfOk-weaker}
use Rattle.job_coastline.proofs.Left.{left_from}
use Rattle.job_coastline.proofs.counts.count_list.Goals as goal

pub returns : goal.returns
returns c = IfOk-weaker c.count_leaves_of.result _ _ (λ after h. record { leaves = h.0; are = left_from c.in_ok-leaves.ensures h.0 h.1; counts = h.2 }) c.count_leaves_of.ensures
