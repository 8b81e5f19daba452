-- The prints of the leaves of land and of water, as statements.
use Rattle.std.specs.Prelude.{All, List, None, Some, if◌then◌else◌, pos, true, ℕ, ℤ, ◌≡◌}
use Rattle.osm_elements.specs.declared.object.Object.{Object}
use Rattle.coast_split.specs.declared.leaves.Leaf.{Leaf}
use Rattle.job_coastline.specs.Coastline.{IsCoastline}
use Rattle.job_coastline.specs.Pieces.{AreTiles, Tile}
use Rattle.osm_geom.specs.declared.edge.Edge.{Edge}
use Rattle.osm_job.specs.Whole.{Whole}
use Rattle.osm_nest.specs.declared.polygon.Polygon.{Polygon}
use Rattle.osm_rings.specs.Ring.{IsRing}
use Rattle.osm_text.specs.Piece.{piece_line, piece_text}
use Rattle.osm_text.specs.Rounded.{has_vanished, rounded_ring}
use Rattle.osm_text.specs.declared.piece.PieceKind.{PieceKind}
use Rattle.osm_words.specs.Job.{CoastlineSettings}
use Rattle.plane.specs.RayCrossing.{IsOffEdge}
use Rattle.plane.specs.Sign.{Plus, sign}
use Rattle.plane.specs.Vector.{Vector, east}
use Rattle.osm_geom.specs.InPlane.Multiple.{IsCommon}
use Rattle.osm_geom.specs.InPlane.Sided.{IsSided, signed_count_at}
use Rattle.plane_lists.specs.Lists.EdgeList.{winding_number}
use Rattle.plane_lists.specs.Lists.ScaledEdges.{scaled_edges}
use Rattle.one_output.specs.RoundedPieces.Near.{AreBeyondHalf}
use Rattle.one_output.specs.RoundedPieces.Printed.{edges_round, printed_rings}
use Rattle.one_output.specs.RoundedPieces.Tiles.{ArePrintedRight, IsPrintedRing}

-- ---- polygons and rings

-- the line of a polygon is that of its printed rings
abbrev pub LineIsOfPrintedRings : Type 0
LineIsOfPrintedRings =
    (kind : PieceKind) (polygon : Polygon) →
    piece_text kind polygon ≡ (if has_vanished polygon.outer then None else Some (piece_line kind (printed_rings polygon)))

-- each printed location of a polygon is at most half a unit away, in x and in y, from a point of the ring that it is printed for
abbrev pub PrintedIsNear : Type 0
PrintedIsNear = (polygon : Polygon) → All (IsPrintedRing polygon) (printed_rings polygon)

-- If the closed unit square of a point p.x / q, p.y / q meets no edge of a ring, the point is off what is left of the ring.
abbrev pub RoundedRingIsOff : Type 0
RoundedRingIsOff =
    (k : ℕ) (ring : List Edge) → IsRing ring → IsCommon k ring → (q : ℤ) → sign q ≡ Plus → (p : Vector) → AreBeyondHalf k q p ring →
    All (IsOffEdge p) (scaled_edges q (edges_round (rounded_ring ring)))

-- what is left winds round such a point as the ring does
abbrev pub RoundedRingWindsAlike : Type 0
RoundedRingWindsAlike =
    (k : ℕ) (ring : List Edge) → IsRing ring → IsCommon k ring → (q : ℤ) → sign q ≡ Plus → (p : Vector) → AreBeyondHalf k q p ring →
    winding_number east p (scaled_edges q (edges_round (rounded_ring ring))) ≡ signed_count_at q p ring

-- what is left of a ring that has vanished goes round no point
abbrev pub VanishedGoesRoundNothing : Type 0
VanishedGoesRoundNothing =
    (ring : List Edge) → has_vanished ring ≡ true → (q : ℤ) (p : Vector) →
    winding_number east p (scaled_edges q (edges_round (rounded_ring ring))) ≡ pos 0

-- ---- leaves
abbrev pub IsTilePrintedRight : Tile → Type 0
IsTilePrintedRight tile = ArePrintedRight tile.leaf.edges tile.polygons

-- sided leaves are printed right, except within half a unit of their edges
abbrev pub LeavesArePrintedRight : Type 0
LeavesArePrintedRight =
    (leaves : List Leaf) → All (λ (leaf : Leaf). IsSided leaf.edges) leaves → (tiles : List Tile) → AreTiles leaves tiles →
    All IsTilePrintedRight tiles

-- the leaves of land of a coastline job are printed right in this sense
abbrev pub LandIsPrintedRight : Type 0
LandIsPrintedRight =
    (settings : CoastlineSettings) (objects : List Object) (whole : Whole) (right : IsCoastline settings objects whole) (tiles : List Tile) →
    AreTiles right.areas.land_leaves tiles → All IsTilePrintedRight tiles

-- and so are those of water
abbrev pub WaterIsPrintedRight : Type 0
WaterIsPrintedRight =
    (settings : CoastlineSettings) (objects : List Object) (whole : Whole) (right : IsCoastline settings objects whole) (tiles : List Tile) →
    AreTiles right.areas.water_leaves tiles → All IsTilePrintedRight tiles
