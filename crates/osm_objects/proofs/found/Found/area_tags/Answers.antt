use Rattle.std.proofs.Common.{◌∙◌, ap, sym, Some, option_map}
use Rattle.std.proofs.lemmas.Result.{IfOk-weaker}
use Rattle.osm_objects.specs.declared.found.Found.{Found}
use Rattle.osm_objects.specs.Candidates.{area_tags}
use Rattle.osm_objects.specs.Found.{object_found}
use Rattle.osm_objects.proofs.found.Found.area_tags.Goals as goal

pub returns-in-Other : goal.returns-in-Other
returns-in-Other c = λ id some. IfOk-weaker c.area_tags.result _ _ (λ tags h. ap Some h ∙ sym (ap (λ (f : Found). option_map area_tags (object_found id f)) c.in-Other.is)) (c.area_tags.ensures id)
