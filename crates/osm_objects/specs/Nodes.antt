-- Nodes among the objects.
use Rattle.std.specs.Prelude.{Bool, true, false, List, map, filter, ℤ}
use Rattle.osm_elements.specs.declared.object.Object.{Object}
use Rattle.osm_elements.specs.declared.object.Object.TheVariants as object
use Rattle.osm_objects.specs.Object.{id_of}

abbrev pub is_node : Object → Bool
is_node (object.Node id live tags place) = true
is_node (object.Way id live tags refs) = false
is_node (object.Relation id live tags members) = false

-- their ids, in order
abbrev pub node_ids : List Object → List ℤ
node_ids objects = map id_of (filter is_node objects)
