-- What a coastline job is to write in all, and how it is to end.
use Rattle.std.specs.Prelude.{◌≡◌, ◌⊎◌, ◌<◌, ◌≤◌, ◌+◌, ℕ, Bool, true, false, List, [], ◌++◌, length, map}
use Rattle.std.specs.List.{flat_map}
use Rattle.osm_elements.specs.declared.object.Object.{Object}
use Rattle.osm_geom.specs.declared.edge.Edge.{Edge}
use Rattle.osm_host.specs.Outside.{Outside, output}
use Rattle.osm_nest.specs.declared.polygon.Polygon.{Polygon}
use Rattle.osm_text.specs.declared.piece.PieceKind.TheVariants as kind
use Rattle.osm_words.specs.Job.{CoastlineSettings}
use Rattle.osm_job.specs.declared.ended.Ended.{Ended}
use Rattle.osm_job.specs.declared.ended.Ended.TheVariants as ended
use Rattle.osm_job.specs.Sent.{Sent, to_output, to_report}
use Rattle.osm_job.specs.Whole.{Whole, silent}
use Rattle.osm_job.specs.Worked.{ReadThenWrote}
use Rattle.coast_split.specs.declared.leaves.Leaf.{Leaf}
use Rattle.coast_sides.specs.Water.{IsWater, segments_under}
use Rattle.job_coastline.specs.Coast.{Coast, IsCoast}
use Rattle.job_coastline.specs.Pieces.{AreLeavesOf, AreTiles, Tile, has_land, has_water, pieces_text, tile_lines}
use Rattle.osm_nest.specs.Nested.{ArePolygons}
use Rattle.job_coastline.specs.Report.{ArePrinted, coast_lines, ending_of}
use Rattle.osm_text.specs.declared.coast.CoastLine.{CoastLine}

-- of land, where they are asked for
abbrev pub AreLand : Bool → List Edge → List Polygon → Type 0
AreLand true land polygons = ArePolygons land polygons
AreLand false land polygons = polygons ≡ []

-- of water, where they are asked for
abbrev pub AreWater : Bool → List Edge → List Polygon → Type 0
AreWater true land polygons = (water : List Edge) × IsWater (segments_under land) water × ArePolygons water polygons
AreWater false land polygons = polygons ≡ []

-- ---- what is split

-- What comes of the coastline ways, the polygons that are asked for, and the leaves of those.
pub record Areas : Type 0 where
  pub coast : Coast
  pub land : List Polygon
  pub land_leaves : List Leaf
  pub water : List Polygon
  pub water_leaves : List Leaf

-- They come of the coastline ways of these objects, each polygon split into its leaves.
pub record AreCoastAreas (settings : CoastlineSettings) (objects : List Object) (areas : Areas) : Type 0 where
  pub coast : IsCoast settings objects areas.coast
  pub land : AreLand (has_land settings.polygons) areas.coast.land.edges areas.land
  pub land_leaves : AreLeavesOf settings areas.land areas.land_leaves
  pub water : AreWater (has_water settings.polygons) areas.coast.land.edges areas.water
  pub water_leaves : AreLeavesOf settings areas.water areas.water_leaves

-- ---- what is written of leaves

-- the most leaves of a run, of land and of water together
abbrev pub most_leaves : ℕ
most_leaves = 4_194_304

-- the lines of the report: of the coast, then of the leaves of land, then of those of water
abbrev pub all_lines : Coast → List Tile → List Tile → List CoastLine
all_lines coast land water = coast_lines coast ++ (flat_map tile_lines land ++ flat_map tile_lines water)

-- the pieces of land, those of water, and behind them the report
abbrev pub all_sent : List Tile → List Tile → List ℕ → List Sent
all_sent land water report =
    map to_output (pieces_text kind.Land land) ++ (map to_output (pieces_text kind.Water water) ++ map to_report report)

-- The leaves of land and of water are written as their pieces, and behind them the report, which tells the ending.
pub record AreWritten (coast : Coast) (land water : List Leaf) (whole : Whole) : Type 0 where
  pub land_tiles : List Tile
  pub land_made : AreTiles land land_tiles
  pub water_tiles : List Tile
  pub water_made : AreTiles water water_tiles
  pub report : List ℕ
  pub printed : ArePrinted (all_lines coast land_tiles water_tiles) report
  pub written : whole.written ≡ all_sent land_tiles water_tiles report
  pub ended : whole.ended ≡ ending_of (all_lines coast land_tiles water_tiles)

-- Unless they are too many: then nothing is written.
abbrev pub AreWrittenOrTooMany : Coast → List Leaf → List Leaf → Whole → Type 0
AreWrittenOrTooMany coast land water whole =
    ((length land + length water ≤ most_leaves) × AreWritten coast land water whole)
    ⊎ ((most_leaves < length land + length water) × (whole ≡ silent (ended.TooManyPieces most_leaves)))

-- What comes of the coastline ways and is split, and what is written of it.
pub record IsCoastline (settings : CoastlineSettings) (objects : List Object) (whole : Whole) : Type 0 where
  pub areas : Areas
  pub right : AreCoastAreas settings objects areas
  pub written : AreWrittenOrTooMany areas.coast areas.land_leaves areas.water_leaves whole

-- A coastline job ended so: it reads its input, joins, opens its output, and writes what is right over the objects of the input.
abbrev pub Coastlines : CoastlineSettings → Ended → Outside → Outside → Type 0
Coastlines settings ended before after =
    ReadThenWrote settings.file (output settings.output settings.overwrite) (IsCoastline settings) ended before after
