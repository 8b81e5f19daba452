-- The objects of the sample input: a square of n times n cells, each with a hole, and a coast around all of them.
-- Cells are counted from 0, row by row.
use Rattle.std.specs.Prelude.{ℕ, ◌+◌, ◌*◌, ◌/◌, ◌%◌, true, List, [], ◌∷◌, ◌++◌, map, ℤ, pos, neg_ℤ, ◌-ℤ◌, codes, Option, None}
use Rattle.osm_lattice.specs.declared.loc.Loc.{Loc}
use Rattle.osm_elements.specs.Places.{latitude, longitude}
use Rattle.osm_elements.specs.Places.{location_from}
use Rattle.osm_elements.specs.declared.object.Member.{Member}
use Rattle.osm_elements.specs.declared.object.Object.{Object}
use Rattle.osm_elements.specs.declared.object.Object.TheVariants as object
use Rattle.osm_elements.specs.declared.object.ObjectKind.TheVariants as kind
use Rattle.osm_elements.specs.declared.object.Ref.{Ref}
use Rattle.osm_elements.specs.declared.object.Tag.{Tag}
use Rattle.osm_sample.specs.Numbers.{numbers}

-- ---- nodes

-- the location of these coordinates, in units of 1e-7 degree
abbrev pub place_at : ℤ → ℤ → Option Loc
place_at x y = location_from (longitude x) (latitude y)

-- a node without tags
abbrev pub node_at : ℕ → ℤ → ℤ → Object
node_at id x y = object.Node (pos id) true [] (place_at x y)

-- a node of cell k, in column k % n and row k / n: this far to the right of its lower left corner, and this far up
abbrev pub corner_node : ℕ → ℕ → ℕ → ℕ → ℕ → Object
corner_node n k id right up = node_at id (pos (10_000 * (k % n) + right)) (pos (10_000 * (k / n) + up))

-- the corners of a square within a cell, from the lower left one on, counterclockwise
abbrev pub square_nodes : ℕ → ℕ → ℕ → ℕ → ℕ → List Object
square_nodes n k first low high =
    corner_node n k first low low ∷ corner_node n k (first + 1) high low ∷ corner_node n k (first + 2) high high
    ∷ corner_node n k (first + 3) low high ∷ []

-- the nodes of the cell, then those of its hole
abbrev pub cell_nodes : ℕ → ℕ → List Object
cell_nodes n k = square_nodes n k (8 * k + 1) 0 8_000 ++ square_nodes n k (8 * k + 5) 2_000 6_000

-- the number of the cells' nodes; the nodes of the coast come after them
abbrev pub cells_end : ℕ → ℕ
cells_end n = 8 * (n * n)

-- the nodes of the coast's upper side, from right to left, alternately nearer to the cells and farther from them
abbrev pub upper_node : ℕ → ℕ → Object
upper_node n s =
    node_at (cells_end n + 3 + s) (pos (10_000 * n + 10_000) -ℤ pos (5_000 * s)) (pos (10_000 * n + 10_000 + 5_000 * (s % 2)))

abbrev pub lower_left : ℕ → Object
lower_left n = node_at (cells_end n + 1) (neg_ℤ (pos 10_000)) (neg_ℤ (pos 10_000))

abbrev pub lower_right : ℕ → Object
lower_right n = node_at (cells_end n + 2) (pos (10_000 * n + 10_000)) (neg_ℤ (pos 10_000))

-- the two lower nodes of the coast, then those of its upper side
abbrev pub coast_node_objects : ℕ → List Object
coast_node_objects n = lower_left n ∷ lower_right n ∷ map (upper_node n) (numbers (2 * n + 5))

-- ---- ways

abbrev pub ref_to : ℕ → Ref
ref_to id = record { node = pos id; at = None }

-- references to nodes whose ids follow one another, and to the first of them again
abbrev pub closed_refs : ℕ → ℕ → List Ref
closed_refs first count = map (λ i. ref_to (first + i)) (numbers count) ++ ref_to first ∷ []

abbrev pub closed_way : ℕ → List Tag → ℕ → ℕ → Object
closed_way id tags first count = object.Way (pos id) true tags (closed_refs first count)

-- the way around a cell, and the way around its hole
abbrev pub cell_ways : ℕ → List Object
cell_ways k = closed_way (2 * k + 1) [] (8 * k + 1) 4 ∷ closed_way (2 * k + 2) [] (8 * k + 5) 4 ∷ []

abbrev pub tag_of : List ℕ → List ℕ → Tag
tag_of key value = record { key = key; value = value }

-- the way through all nodes of the coast
abbrev pub coast_way : ℕ → Object
coast_way n =
    closed_way (2 * (n * n) + 1) (tag_of (codes "natural") (codes "coastline") ∷ []) (cells_end n + 1) (2 * n + 7)

-- ---- relations

abbrev pub way_member : ℕ → List ℕ → Member
way_member id role = record { kind = kind.Way; id = pos id; role = role }

-- a multipolygon with a use of its land
abbrev pub multipolygon : ℕ → List ℕ → List Member → Object
multipolygon id landuse members =
    object.Relation (pos id) true (tag_of (codes "type") (codes "multipolygon") ∷ tag_of (codes "landuse") landuse ∷ []) members

-- a cell without its hole
abbrev pub cell_relation : ℕ → Object
cell_relation k =
    multipolygon (k + 1) (codes "grass") (way_member (2 * k + 1) (codes "outer") ∷ way_member (2 * k + 2) (codes "inner") ∷ [])

-- all cells without their holes
abbrev pub forest : ℕ → Object
forest n = multipolygon (n * n + 1) (codes "forest") (map (λ i. way_member (i + 1) []) (numbers (2 * (n * n))))
