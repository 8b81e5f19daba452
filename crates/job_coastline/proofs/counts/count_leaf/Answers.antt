use Rattle.std.proofs.lemmas.Result.{IfOk-weaker}
use Rattle.job_coastline.proofs.Tallies.{leaf_counted}
use Rattle.job_coastline.proofs.counts.count_leaf.Goals as goal

pub returns : goal.returns
returns c =
    IfOk-weaker c.with_pieces.result _ _ (λ after h.
    leaf_counted c.args.kind c.args.leaf c.in_ok-pieces.pieces c.in_ok-pieces.ensures c.args.tally after h.0 h.1 h.2) c.with_pieces.ensures
