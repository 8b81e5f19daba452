-- What follows of each right outcome.
use Rattle.std.proofs.lemmas.Result.{IfOk-weaker}
use Rattle.osm_segments.proofs.CountLemmas.{IfOk-both}
use Rattle.osm_area.proofs.OutcomeParity.{keeps_parity}
use Rattle.osm_area.proofs.ProblemKinds.{problems_of_kind}
use Rattle.osm_area.proofs.outcome.assemble.Goals as goal

pub returns-clause-kinds : goal.returns-clause-kinds
returns-clause-kinds c = IfOk-weaker c.outcome_of.result _ _ (λ outcome right. problems_of_kind c.args.store.now c.args.candidate outcome right) c.outcome_of.ensures.right

pub returns-clause-parity : goal.returns-clause-parity
returns-clause-parity c = IfOk-both c.outcome_of.result _ _ _ (λ outcome right whole. keeps_parity c.args.store.now c.args.candidate outcome right whole) c.outcome_of.ensures.right c.outcome_of.ensures.whole
