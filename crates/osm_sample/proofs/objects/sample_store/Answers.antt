use Rattle.std.proofs.Common.{◌≡◌, ◌∙◌, List, Result, Ok, Err, IfOk, ap, filter}
use Rattle.osm_elements.specs.declared.object.Object.{Object}
use Rattle.osm_objects.specs.Object.{is_live}
use Rattle.osm_sample.specs.Input.{sample_objects}
use Rattle.osm_sample.proofs.Good.{sample_live, store_is}
use Rattle.osm_sample.proofs.objects.sample_store.Goals as goal

pub returns : goal.returns
returns c = store_is c.store_of.result (ap (λ (os : List Object). filter is_live os) c.in_ok-sample_objects.ensures ∙ sample_live c.args.count c.requires.few) c.store_of.ensures
