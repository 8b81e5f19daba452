use Rattle.std.proofs.lemmas.Result.{IfOk-weaker}
use Rattle.osm_segments.proofs.FoundPairs.{pairs_rise}
use Rattle.osm_segments.proofs.pairs.conflicts.Goals as goal

pub returns-clause-rising : goal.returns-clause-rising
returns-clause-rising c = IfOk-weaker c.all_conflicts.result _ _ (λ v e. pairs_rise c.args.segs.now v.items c.requires e) c.all_conflicts.ensures
