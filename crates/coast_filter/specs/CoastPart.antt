-- The coast part of an input: its coast ways, and the nodes of the input that they name.
use Rattle.std.specs.Prelude.{Bool, false, List, [], ◌++◌, map, filter, ℤ}
use Rattle.std.specs.List.{flat_map, list_any}
use Rattle.std.specs.Ordering.{int_eq}
use Rattle.osm_elements.specs.declared.object.Ref.{Ref}
use Rattle.osm_elements.specs.declared.object.Object.{Object}
use Rattle.osm_elements.specs.declared.object.Object.TheVariants as object
use Rattle.osm_objects.specs.CoastWays.{is_coast_way}

-- the nodes that references name, in order, whether located or not
abbrev pub nodes_named : List Ref → List ℤ
nodes_named refs = map (λ r. r.node) refs

-- the references of an object, if it is a way
abbrev pub refs_in : Object → List Ref
refs_in (object.Node id live tags place) = []
refs_in (object.Way id live tags refs) = refs
refs_in (object.Relation id live tags members) = []

-- the nodes that references of coast ways name
abbrev pub coast_nodes : List Object → List ℤ
coast_nodes objects = flat_map (λ o. nodes_named (refs_in o)) (filter is_coast_way objects)

-- a node that a reference of a coast way names
abbrev pub is_named : List Object → Object → Bool
is_named objects (object.Node id live tags place) = list_any (int_eq id) (coast_nodes objects)
is_named objects (object.Way id live tags refs) = false
is_named objects (object.Relation id live tags members) = false

-- these nodes in input order, and after them the coast ways in input order
abbrev pub coast_part : List Object → List Object
coast_part objects = filter (is_named objects) objects ++ filter is_coast_way objects
