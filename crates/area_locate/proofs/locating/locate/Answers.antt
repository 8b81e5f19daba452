-- What is found among the areas is what is found among the candidates.
use Rattle.std.proofs.Common.{List, ap, map, ◌≡◌, ◌∙◌, subst, sym}
use Rattle.std.proofs.lemmas.Result.{IfOk-weaker}
use Rattle.osm_elements.specs.declared.object.ObjectRef.{ObjectRef}
use Rattle.osm_objects.specs.Candidates.{candidates}
use Rattle.area_locate.specs.declared.found.Found.{Found}
use Rattle.area_locate.specs.Areas.{AreAreas, all_hits, found_as}
use Rattle.area_locate.specs.Hits.{AreFoundAmong}
use Rattle.area_locate.proofs.Founds.{all_found}
use Rattle.area_locate.proofs.locating.locate.Goals as goal

pub returns : goal.returns
returns c =
    let objects = c.args.store.now in
    let cs = candidates c.args.choice.now objects in
    let have = c.in_ok-hits.ensures in
    let are = subst (λ (xs : List ObjectRef). AreAreas objects xs have.0) (c.deref.ensures.value ∙ c.in_ok-candidates.ensures.list) have.1 in
    IfOk-weaker c.all_found.result (λ found. found ≡ map (found_as (all_hits have.0)) c.args.points.now) (λ found. AreFoundAmong objects cs c.args.points.now found)
    (λ found e. subst (λ (xs : List Found). AreFoundAmong objects cs c.args.points.now xs) (sym e) (all_found objects cs have.0 are c.args.points.now)) (c.all_found.ensures (all_hits have.0) (c.deref-4.ensures.value ∙ have.2 ∙ ap (map (all_hits have.0)) (c.deref-2.ensures.value ∙ sym c.deref-3.ensures.value)))
