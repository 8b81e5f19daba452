-- That leaves make pieces, as statements.
use Rattle.std.specs.Prelude.{All, ℕ, List}
use Rattle.coast_split.specs.LeavesLeft.{AreLeft}
use Rattle.coast_split.specs.declared.leaves.Leaf.{Leaf}
use Rattle.osm_geom.specs.declared.edge.Edge.{Edge}
use Rattle.osm_geom.specs.InPlane.Sided.{IsSided}
use Rattle.osm_nest.specs.Nested.{ArePolygons}
use Rattle.osm_nest.specs.declared.polygon.Polygon.{Polygon}
use Rattle.osm_text.specs.Coast.{HasItsKind}
use Rattle.osm_text.specs.declared.coast.CoastLine.{CoastLine}
use Rattle.job_coastline.specs.Pieces.{AreTiles, Tile}
use Rattle.job_coastline.specs.Report.{ArePrinted}

-- sided edges make polygons
abbrev pub EdgesMakePolygons : Type 0
EdgesMakePolygons = (edges : List Edge) → IsSided edges → (polygons : List Polygon) × ArePolygons edges polygons

-- the edges of each leaf are sided
abbrev pub HaveSidedEdges : List Leaf → Type 0
HaveSidedEdges leaves = All (λ (leaf : Leaf). IsSided leaf.edges) leaves

-- leaves of sided lists are sided
abbrev pub LeftAreSided : Type 0
LeftAreSided = (m o : ℕ) (lists : List (List Edge)) → All IsSided lists → (leaves : List Leaf) → AreLeft m o lists leaves → HaveSidedEdges leaves

-- sided leaves have their polygons
abbrev pub TilesExist : Type 0
TilesExist = (leaves : List Leaf) → HaveSidedEdges leaves → (tiles : List Tile) × AreTiles leaves tiles

-- lines of a report, whose conflicts are of the kinds that their segments have, are printed in some way
abbrev pub ReportExists : Type 0
ReportExists = (lines : List CoastLine) → All HasItsKind lines → (text : List ℕ) × ArePrinted lines text
