-- What the store keeps of an object, and the object that it represents. Only private clauses cite this.
use Rattle.std.specs.Prelude.{true, List, [], ℤ, map, Option, Some, None, if◌then◌else◌}
use Rattle.osm_elements.specs.declared.object.ObjectRef.{ObjectRef}
use Rattle.osm_elements.specs.declared.object.Object.{Object}
use Rattle.osm_elements.specs.declared.object.Object.TheVariants as object
use Rattle.osm_objects.specs.Object.{is_live, ref_of}
use Rattle.osm_objects.specs.Merged.{Other, other}
use Rattle.osm_objects.specs.declared.held.Held.{Held}
use Rattle.osm_objects.specs.declared.held.Placed.{Placed}
use Rattle.osm_objects.specs.declared.held.Held.TheVariants.{Plain, Tagged, Way, Relation}

-- the object of this id
abbrev pub object_from : ℤ → Held → Object
object_from id (Plain place) = object.Node id true [] place
object_from id (Tagged n) = object.Node id true n.value.tags n.value.place
object_from id (Way w) = object.Way id true w.value.tags w.value.refs
object_from id (Relation r) = object.Relation id true r.value.tags r.value.members

-- the objects, each with the count of plain nodes before it
abbrev pub others_from : List Placed → List (Other Object)
others_from others = map (λ p. other p.gap (object_from p.id p.held)) others

-- the reference under which an object is kept; none if it is deleted
abbrev pub live_ref : Object → Option ObjectRef
live_ref o = if is_live o then Some (ref_of o) else None
