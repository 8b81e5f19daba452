-- Coastline ways: those that take part, and what keeps the others from it.
use Rattle.std.specs.Prelude.{Bool, if◌then◌else◌, ℤ, List, [], ◌∷◌, length, map, filter, nat_le, is_none}
use Rattle.std.specs.List.{filter_map}
use Rattle.std.specs.Option.{option_map_or}
use Rattle.std.specs.Ordering.{int_eq}
use Rattle.osm_lattice.specs.declared.loc.Loc.{Loc}
use Rattle.osm_elements.specs.declared.object.Object.{Object}
use Rattle.osm_elements.specs.declared.object.Ref.{Ref}
use Rattle.osm_objects.specs.Objects.{place_of, way_of}
use Rattle.coast_join.specs.declared.way.Aside.{Aside}
use Rattle.coast_join.specs.declared.way.Aside.TheVariants.{Missing, Short}
use Rattle.coast_join.specs.Chains.{WayPath}
use Rattle.lists.specs.Once.{each_once}
use Rattle.coast_rings.specs.Round.{once}

-- the references of a way
abbrev pub refs_of : List Object → ℤ → List Ref
refs_of objects way = option_map_or (λ w. w.refs) (way_of objects way) []

-- the nodes of those without a location, each once
abbrev pub missing_node_ids : List Object → List Ref → List ℤ
missing_node_ids objects refs = each_once int_eq (map (λ r. r.node) (filter (λ r. is_none (place_of objects r)) refs))

-- the locations, equal neighbours taken once
abbrev pub line_along : List Object → List Ref → List Loc
line_along objects refs = once (filter_map (place_of objects) refs)

abbrev pub is_empty : {X : Type 0} → List X → Bool
is_empty xs = nat_le (length xs) 0

-- a way none of whose nodes is missing, and of which at least two locations are left, takes part
abbrev pub lines_by : ℤ → List ℤ → List Loc → List WayPath
lines_by way missing line = if is_empty missing then (if nat_le 2 (length line) then record { id = way; path = line } ∷ [] else []) else []

-- what keeps a way from it: each missing node, or that fewer than two locations are left
abbrev pub asides_by : ℤ → List ℤ → List Loc → List Aside
asides_by way missing line = if is_empty missing then (if nat_le 2 (length line) then [] else Short way ∷ []) else map (Missing way) missing

abbrev pub way_paths_in : List Object → ℤ → List WayPath
way_paths_in objects way = lines_by way (missing_node_ids objects (refs_of objects way)) (line_along objects (refs_of objects way))

abbrev pub asides_of : List Object → ℤ → List Aside
asides_of objects way = asides_by way (missing_node_ids objects (refs_of objects way)) (line_along objects (refs_of objects way))
