-- Nodes and ways looked up by their ids, as the code takes them. Only private clauses cite them.
use Rattle.std.specs.Prelude.{◌≡◌, ℕ, ℤ, List, [], filter}
use Rattle.std.specs.List.{list_any}
use Rattle.std.specs.Option.{option_map_or}
use Rattle.std.specs.Ordering.{int_eq}
use Rattle.osm_elements.specs.declared.object.Object.{Object}
use Rattle.opl_writer.specs.Written.{ended, node_line, way_line}
use Rattle.osm_objects.specs.Objects.{node_of, way_of}
use Rattle.coast_filter.specs.CoastPart.{nodes_named}

-- the same ids occur in both lists, maybe not equally often
abbrev pub HaveSame : List ℤ → List ℤ → Type 0
HaveSame xs ys = (id : ℤ) → list_any (int_eq id) xs ≡ list_any (int_eq id) ys

-- the ids that are among the names, in order
abbrev pub among : List ℤ → List ℤ → List ℤ
among names ids = filter (λ id. list_any (int_eq id) names) ids

-- the nodes that the way of this id names
abbrev pub way_nodes : List Object → ℤ → List ℤ
way_nodes objects id = option_map_or (λ w. nodes_named w.refs) (way_of objects id) []

-- the line of the node of this id
abbrev pub node_text : List Object → ℤ → List ℕ
node_text objects id = option_map_or (λ n. ended (node_line id n.tags n.place)) (node_of objects id) []

-- the line of the way of this id
abbrev pub way_line_by_id : List Object → ℤ → List ℕ
way_line_by_id objects id = option_map_or (λ w. ended (way_line id w.tags w.refs)) (way_of objects id) []
