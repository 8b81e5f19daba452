-- The object that was found. Only private clauses cite this.
use Rattle.std.specs.Prelude.{ℤ, Option, Some, None}
use Rattle.osm_elements.specs.declared.object.Object.{Object}
use Rattle.osm_objects.specs.declared.found.Found.{Found}
use Rattle.osm_objects.specs.declared.found.Found.TheVariants.{Nowhere, Plain, Other}
use Rattle.osm_objects.specs.Held.{object_from}
use Rattle.osm_objects.specs.Plain.{node_from}

-- the object of this id
abbrev pub object_found : ℤ → Found → Option Object
object_found id Nowhere = None
object_found id (Plain n) = Some (node_from n)
object_found id (Other h) = Some (object_from id h.now)
