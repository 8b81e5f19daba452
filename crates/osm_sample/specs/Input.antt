-- The sample input: its objects and its bytes.
use Rattle.std.specs.Prelude.{ℕ, ◌*◌, ◌+◌, List, [], ◌∷◌, ◌++◌, map}
use Rattle.std.specs.List.{flat_map}
use Rattle.osm_elements.specs.declared.object.Object.{Object}
use Rattle.opl_writer.specs.Written.{objects_text}
use Rattle.osm_sample.specs.Numbers.{numbers}
use Rattle.osm_sample.specs.Objects.{cell_nodes, cell_relation, cell_ways, coast_node_objects, coast_way, forest}

-- the nodes of the cells and of the coast, the ways of the cells and of the coast, the relations of the cells, and the
-- forest
abbrev pub sample_objects : ℕ → List Object
sample_objects n =
    flat_map (cell_nodes n) (numbers (n * n))
    ++ coast_node_objects n
    ++ flat_map cell_ways (numbers (n * n))
    ++ coast_way n ∷ []
    ++ map cell_relation (numbers (n * n))
    ++ forest n ∷ []

-- their lines, in order
abbrev pub sample_text : ℕ → List ℕ
sample_text n = objects_text (sample_objects n)
