-- Words of private clauses on the pieces of one leaf. No public contract cites it.
use Rattle.std.specs.Prelude.{◌≡◌, ◌+◌, ◌++◌, ℕ, List, length}
use Rattle.coast_split.specs.declared.leaves.Leaf.{Leaf}
use Rattle.osm_job.specs.Sent.{lines_text}
use Rattle.osm_text.specs.declared.coast.CoastLine.{CoastLine}
use Rattle.osm_text.specs.declared.piece.PieceKind.{PieceKind}
use Rattle.job_coastline.specs.Pieces.{IsTile, Tile, tile_count, tile_lines, tile_text}
use Rattle.job_coastline.specs.declared.pieces.Pieces.{Pieces}

-- This was added to what is to be written, as so many lines, and these lines to the report.
pub record Adds (before after : Pieces) (text : List ℕ) (count : ℕ) (lines : List CoastLine) : Type 0 where
  pub written : lines_text after.texts.items ≡ lines_text before.texts.items ++ text
  pub printed : length after.texts.items ≡ length before.texts.items + count
  pub told : after.lines.items ≡ before.lines.items ++ lines

-- These are the pieces of a leaf.
pub record ArePiecesOf (kind : PieceKind) (leaf : Leaf) (pieces : Pieces) : Type 0 where
  pub tile : Tile
  pub of_leaf : tile.leaf ≡ leaf
  pub made : IsTile tile
  pub written : lines_text pieces.texts.items ≡ tile_text kind tile
  pub printed : length pieces.texts.items ≡ tile_count kind tile
  pub told : pieces.lines.items ≡ tile_lines tile
