-- How many lines a coastline job writes, whatever the number of leaves.
use Rattle.std.specs.Prelude.{◌≡◌, not, List}
use Rattle.std.specs.List.{count_by}
use Rattle.osm_elements.specs.declared.object.Object.{Object}
use Rattle.osm_text.specs.Coast.{is_error}
use Rattle.osm_text.specs.declared.piece.PieceKind.TheVariants as kind
use Rattle.osm_words.specs.Job.{CoastlineSettings}
use Rattle.job_coastline.specs.declared.counts.CoastCounts.{CoastCounts}
use Rattle.job_coastline.specs.Coast.{Coast}
use Rattle.job_coastline.specs.Coastline.{AreCoastAreas, Areas, all_lines}
use Rattle.job_coastline.specs.Pieces.{AreTiles, Tile, pieces_count}

-- of the pieces of land, of those of water, and of the report, which has warnings and errors
abbrev pub coast_counts_of : Coast → List Tile → List Tile → CoastCounts
coast_counts_of coast land water = record {
  land = pieces_count kind.Land land;
  water = pieces_count kind.Water water;
  warnings = count_by (λ line. not (is_error line)) (all_lines coast land water);
  errors = count_by is_error (all_lines coast land water);
}

-- They are those of what comes of the coastline ways of these objects.
pub record AreCoastCounts (settings : CoastlineSettings) (objects : List Object) (counts : CoastCounts) : Type 0 where
  pub areas : Areas
  pub right : AreCoastAreas settings objects areas
  pub land : List Tile
  pub land_made : AreTiles areas.land_leaves land
  pub water : List Tile
  pub water_made : AreTiles areas.water_leaves water
  pub counted : counts ≡ coast_counts_of areas.coast land water
