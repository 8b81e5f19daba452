-- By what was made, and by the outcome that there is.
use Rattle.std.proofs.lemmas.Result.{IfOk-weaker}
use Rattle.osm_area.proofs.MadeLemmas.{area_is, sound_exactly}
use Rattle.osm_area.proofs.outcome.area_of.Goals as goal

pub returns-clause-outcome : goal.returns-clause-outcome
returns-clause-outcome c = IfOk-weaker c.made_by.result _ _ (λ found made. area_is c.outcome_exists.ensures c.args.store.now c.args.candidate found made) c.made_by.ensures

pub returns-clause-sound : goal.returns-clause-sound
returns-clause-sound c = IfOk-weaker c.made_by.result _ _ (λ found made. sound_exactly c.args.store.now c.args.candidate found made) c.made_by.ensures
