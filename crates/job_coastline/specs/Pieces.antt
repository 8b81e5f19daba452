-- The polygons of land or water, the leaves that they are split into, and the pieces of the output that those make.
use Rattle.std.specs.Prelude.{◌≡◌, ℕ, Bool, true, false, List, [], ◌∷◌, ◌++◌, All, if◌then◌else◌, length, map, Option, Some, None}
use Rattle.std.specs.List.{flat_map, sum_by}
use Rattle.osm_lattice.specs.declared.loc.Loc.{Loc}
use Rattle.osm_nest.specs.Nested.{ArePolygons}
use Rattle.osm_nest.specs.Polygons.{edges_in}
use Rattle.osm_nest.specs.declared.polygon.Polygon.{Polygon}
use Rattle.coast_split.specs.SplitTree.{AreLeaves}
use Rattle.coast_split.specs.declared.leaves.Leaf.{Leaf}
use Rattle.osm_text.specs.declared.coast.CoastLine.{CoastLine}
use Rattle.osm_text.specs.declared.coast.CoastLine.TheVariants as line
use Rattle.osm_text.specs.Piece.{piece_text, vanished_in}
use Rattle.osm_text.specs.declared.piece.PieceKind.{PieceKind}
use Rattle.osm_words.specs.Job.{CoastlineSettings}
use Rattle.osm_words.specs.declared.settings.OutputPolygons.{OutputPolygons}
use Rattle.osm_words.specs.declared.settings.OutputPolygons.TheVariants.{Land, Water, Both, Neither}

-- ---- leaves

-- those of polygons, each split by itself, one polygon's behind the other's
abbrev pub AreLeavesOf : CoastlineSettings → List Polygon → List Leaf → Type 0
AreLeavesOf settings [] leaves = leaves ≡ []
AreLeavesOf settings (polygon ∷ polygons) leaves =
    (first : List Leaf) × (rest : List Leaf)
    × AreLeaves settings.max_points settings.bbox_overlap (edges_in polygon) first
    × AreLeavesOf settings polygons rest × (leaves ≡ first ++ rest)

-- a leaf as it is written: with the polygons that its edges make
pub record Tile : Type 0 where
  pub leaf : Leaf
  pub polygons : List Polygon

abbrev pub IsTile : Tile → Type 0
IsTile tile = ArePolygons tile.leaf.edges tile.polygons

-- leaves as they are written, in order
pub record AreTiles (leaves : List Leaf) (tiles : List Tile) : Type 0 where
  pub of_leaves : map (λ tile. tile.leaf) tiles ≡ leaves
  pub made : All IsTile tiles

-- ---- what is written of them

-- nothing of a polygon whose outer ring vanishes
abbrev pub text_or_nothing : Option (List ℕ) → List ℕ
text_or_nothing (Some text) = text
text_or_nothing None = []

abbrev pub polygon_text : PieceKind → Polygon → List ℕ
polygon_text kind polygon = text_or_nothing (piece_text kind polygon)

abbrev pub tile_text : PieceKind → Tile → List ℕ
tile_text kind tile = flat_map (polygon_text kind) tile.polygons

-- the pieces of all of them, in order
abbrev pub pieces_text : PieceKind → List Tile → List ℕ
pieces_text kind tiles = flat_map (tile_text kind) tiles

-- ---- how many they are

abbrev pub text_count : Option (List ℕ) → ℕ
text_count (Some text) = 1
text_count None = 0

abbrev pub piece_text_count : PieceKind → Polygon → ℕ
piece_text_count kind polygon = text_count (piece_text kind polygon)

abbrev pub tile_count : PieceKind → Tile → ℕ
tile_count kind tile = sum_by (piece_text_count kind) tile.polygons

-- the number of their pieces
abbrev pub pieces_count : PieceKind → List Tile → ℕ
pieces_count kind tiles = sum_by (tile_count kind) tiles

-- ---- what is reported of them

abbrev pub vanished_line : Loc → CoastLine
vanished_line at = line.Vanished at

abbrev pub vanished_lines : Polygon → List CoastLine
vanished_lines polygon = map vanished_line (vanished_in polygon)

abbrev pub large_lines : Leaf → List CoastLine
large_lines leaf = if leaf.large then line.Large (length leaf.edges) ∷ [] else []

-- that the leaf is large, and then each ring that vanishes, polygon by polygon
abbrev pub tile_lines : Tile → List CoastLine
tile_lines tile = large_lines tile.leaf ++ flat_map vanished_lines tile.polygons

-- ---- which polygons are written

abbrev pub has_land : OutputPolygons → Bool
has_land Land = true
has_land Water = false
has_land Both = true
has_land Neither = false

abbrev pub has_water : OutputPolygons → Bool
has_water Land = false
has_water Water = true
has_water Both = true
has_water Neither = false
