use Rattle.std.proofs.Common.{Option, subst, sym, IsSome}
use Rattle.osm_elements.specs.declared.object.Object.{Object}
use Rattle.osm_objects.proofs.store.Store.area_tags.Goals as goal

pub returns : goal.returns
returns c = rw c.find.ensures at (c.area_tags.ensures c.args.of.id (subst (λ (o : Option Object). IsSome o) (sym c.find.ensures) c.requires))
