-- The outline is that of the candidate's area.
use Rattle.std.proofs.Common.{inr, refl, subst}
use Rattle.std.proofs.lemmas.Result.{on_ok_weaker}
use Rattle.osm_area.specs.Sound.{IsOutlineFor}
use Rattle.area_locate.proofs.candidates.add_candidate.Goals as goal

pub returns-in-Some-clause-added : goal.returns-in-Some-clause-added
returns-in-Some-clause-added c =
    let is = subst (IsOutlineFor c.args.store.now c.args.candidate) c.in-Some.is c.in_ok-outline.ensures in
    on_ok_weaker c.add_area.result (λ added. inr (_, record { of = refl; sound = is.0; survive = is.1; within = added.1 }, added.2)) c.add_area.ensures.added
