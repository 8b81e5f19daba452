-- Nodes with a location and without tags, by rising ids. Only private clauses cite this.
use Rattle.std.specs.Prelude.{true, List, [], ◌∷◌, map, Some}
use Rattle.std.specs.Int.Signed.{◌<ℤ◌}
use Rattle.std.specs.List.{AllByRecursion}
use Rattle.osm_elements.specs.declared.object.Object.{Object}
use Rattle.osm_elements.specs.declared.object.Object.TheVariants as object
use Rattle.osm_objects.specs.declared.plain.PlainNode.{PlainNode}

-- the node
abbrev pub node_from : PlainNode → Object
node_from n = object.Node n.id true [] (Some n.place)

abbrev pub nodes_from : List PlainNode → List Object
nodes_from nodes = map node_from nodes

-- each id is below all later ones
abbrev pub HaveRisingIds : List PlainNode → Type 0
HaveRisingIds [] = Unit {0}
HaveRisingIds (n ∷ nodes) = AllByRecursion (λ m. n.id <ℤ m.id) nodes × HaveRisingIds nodes
