-- Words of private clauses on how many lines a coastline job writes. No public contract cites it.
use Rattle.std.specs.Prelude.{◌≡◌, ◌+◌, ◌++◌, not, ℕ, List}
use Rattle.std.specs.List.{count_by, flat_map}
use Rattle.coast_split.specs.LeavesLeft.{AreLeft}
use Rattle.coast_split.specs.declared.leaves.Leaf.{Leaf}
use Rattle.osm_geom.specs.declared.edge.Edge.{Edge}
use Rattle.osm_text.specs.Coast.{is_error}
use Rattle.osm_text.specs.declared.coast.CoastLine.{CoastLine}
use Rattle.osm_text.specs.declared.piece.PieceKind.{PieceKind}
use Rattle.osm_text.specs.declared.piece.PieceKind.TheVariants as kind
use Rattle.osm_words.specs.Job.{CoastlineSettings}
use Rattle.job_coastline.specs.Pieces.{AreTiles, Tile, pieces_count, tile_lines}
use Rattle.job_coastline.specs.declared.counts.CoastCounts.{CoastCounts}
use Rattle.job_coastline.specs.declared.counts.Tally.{Tally}
use Rattle.job_coastline.specs.declared.outlines.Outlines.{Outlines}

-- how many of the lines are warnings
abbrev pub warnings_among : List CoastLine → ℕ
warnings_among lines = count_by (λ line. not (is_error line)) lines

-- What these leaves make was counted.
pub record CountsLeaves (kind : PieceKind) (leaves : List Leaf) (before after : Tally) : Type 0 where
  pub tiles : List Tile
  pub made : AreTiles leaves tiles
  pub pieces : after.pieces ≡ before.pieces + pieces_count kind tiles
  pub warnings : after.warnings ≡ before.warnings + warnings_among (flat_map tile_lines tiles)
  pub errors : after.errors ≡ before.errors + count_by is_error (flat_map tile_lines tiles)

-- What the leaves of these lists make was.
pub record CountsLists (settings : CoastlineSettings) (kind : PieceKind) (lists : List (List Edge)) (before after : Tally) : Type 0 where
  pub leaves : List Leaf
  pub are : AreLeft settings.max_points settings.bbox_overlap lists leaves
  pub counts : CountsLeaves kind leaves before after

-- What the leaves of these outlines make was, with the lines of the coast.
pub record CountsOutlines (settings : CoastlineSettings) (outlines : Outlines) (counts : CoastCounts) : Type 0 where
  pub land_leaves : List Leaf
  pub land_are : AreLeft settings.max_points settings.bbox_overlap outlines.land.items land_leaves
  pub land : List Tile
  pub land_made : AreTiles land_leaves land
  pub water_leaves : List Leaf
  pub water_are : AreLeft settings.max_points settings.bbox_overlap outlines.water.items water_leaves
  pub water : List Tile
  pub water_made : AreTiles water_leaves water
  pub land_pieces : counts.land ≡ pieces_count kind.Land land
  pub water_pieces : counts.water ≡ pieces_count kind.Water water
  pub warnings : counts.warnings ≡ warnings_among (outlines.lines.items ++ (flat_map tile_lines land ++ flat_map tile_lines water))
  pub errors : counts.errors ≡ count_by is_error (outlines.lines.items ++ (flat_map tile_lines land ++ flat_map tile_lines water))
