-- The pieces of leaves, one leaf after the other.
use Rattle.std.proofs.Common.{◌≡◌, ◌∙◌, refl, ap, ap₂, ℕ, List, [], ◌∷◌, ◌++◌, length, append-nil, arith}
use Rattle.std.specs.List.{flat_map, sum_by}
use Rattle.std.proofs.lemmas.List.{map-append}
use Rattle.std.proofs.lemmas.List.Elements.{All-append, All-cons, All-nil}
use Rattle.coast_split.specs.declared.leaves.Leaf.{Leaf}
use Rattle.osm_job.specs.Sent.{lines_text}
use Rattle.osm_nest.specs.declared.polygon.Polygon.{Polygon}
use Rattle.osm_text.specs.declared.coast.CoastLine.{CoastLine}
use Rattle.osm_text.specs.declared.piece.PieceKind.{PieceKind}
use Rattle.job_coastline.specs.Pieces.{AreTiles, IsTile, Tile, large_lines, piece_text_count, polygon_text, vanished_lines}
use Rattle.osm_nest.specs.Nested.{ArePolygons}
use Rattle.job_coastline.specs.PieceSteps.{Adds, ArePiecesOf}
use Rattle.job_coastline.specs.declared.pieces.Pieces.{Pieces}

pub no_tiles : AreTiles [] []
no_tiles = record { of_leaves = refl; made = All-nil IsTile }

pub tiles_both : (a b : List Leaf) (s t : List Tile) → AreTiles a s → AreTiles b t → AreTiles (a ++ b) (s ++ t)
tiles_both a b s t first then = record {
  of_leaves = map-append (λ (tile : Tile). tile.leaf) s t ∙ ap₂ (λ (x y : List Leaf). x ++ y) first.of_leaves then.of_leaves;
  made = All-append IsTile s t first.made then.made;
}

pub one_tile : (leaf : Leaf) (tile : Tile) → tile.leaf ≡ leaf → IsTile tile → AreTiles (leaf ∷ []) (tile ∷ [])
one_tile leaf tile of is = record { of_leaves = ap (λ (l : Leaf). l ∷ []) of; made = All-cons IsTile tile [] is (All-nil IsTile) }

-- the pieces of a leaf: that it is large, and its polygons
module _ (kind : PieceKind) (leaf : Leaf) (polygons : List Polygon) (before middle after : Pieces) where
  pub leaf_pieces : before.texts.items ≡ [] → before.lines.items ≡ [] → ArePolygons leaf.edges polygons → Adds before middle [] 0 (large_lines leaf) →
      Adds middle after (flat_map (polygon_text kind) polygons) (sum_by (piece_text_count kind) polygons) (flat_map vanished_lines polygons) → ArePiecesOf kind leaf after
  leaf_pieces no_texts no_lines are first then = record {
    tile = record { leaf = leaf; polygons = polygons };
    of_leaf = refl;
    made = are;
    written = then.written ∙ ap (λ (xs : List ℕ). xs ++ flat_map (polygon_text kind) polygons) (first.written ∙ append-nil (lines_text before.texts.items) ∙ ap lines_text no_texts);
    printed = let p = first.printed in let q = then.printed in let none : length before.texts.items ≡ 0 = ap length no_texts in omega arith;
    told = then.told ∙ ap (λ (ls : List CoastLine). ls ++ flat_map vanished_lines polygons) (first.told ∙ ap (λ (ls : List CoastLine). ls ++ large_lines leaf) no_lines);
  }
