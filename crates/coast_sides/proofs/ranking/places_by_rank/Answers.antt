-- The places of the ranks in strict order.
use Rattle.std.proofs.Common.{map, sym, subst, ap, ◌∙◌}
use Rattle.std.proofs.lemmas.Result.{IfOk-weaker}
use Rattle.coast_sides.specs.ChoiceSteps.{AreByRank}
use Rattle.coast_sides.specs.declared.ranking.Rank.{Rank}
use Rattle.coast_sides.proofs.RankedPlaces.{ranked_places}
use Rattle.coast_sides.proofs.ranking.places_by_rank.Goals as goal

pub returns : goal.returns
returns c =
    let rings = c.args.rings.now in
    let ranks_are = c.deref.ensures.value ∙ c.in_ok-ranks.ensures in
    let ordered = ranked_places rings c.requires c.deref.result.now c.in_ok-sorted.sorted.items ranks_are c.in_ok-sorted.ensures.once c.in_ok-sorted.ensures.rising in
    IfOk-weaker c.places.result _ _ (λ v e. subst (AreByRank rings) (sym (e ∙ ap (map (λ (r : Rank). r.place)) c.deref-2.ensures.value)) ordered) c.places.ensures
