-- The laws of directed segments, as statements.
use Rattle.std.specs.Prelude.{All, List, [], ◌≡◌}
use Rattle.lists.specs.Rising.{IsRising}
use Rattle.plane_lists.specs.Lists.OddSide.{directed}
use Rattle.osm_geom.specs.declared.edge.Edge.{Edge}
use Rattle.osm_lattice.specs.declared.seg.Seg.{Seg}
use Rattle.osm_lattice.specs.Seg.{seg_cmp}
use Rattle.osm_geom.specs.WholeSegment.{IsWholeSegment}
use Rattle.osm_segments.specs.Pairs.{conflicts_of}
use Rattle.osm_geom.specs.InPlane.Multiple.{edges_times}
use Rattle.osm_geom.specs.InPlane.Sided.{IsSided}
use Rattle.osm_sides.specs.Directions.{AreDirected}
use Rattle.osm_segments.specs.Counts.{HasEvenNodes}
use Rattle.osm_sides.specs.Survivors.{plane_edges_of}

-- directed segments run along whole segments
abbrev pub DirectedAreWhole : Type 0
DirectedAreWhole = (segs : List Seg) (edges : List Edge) → AreDirected segs edges → All IsWholeSegment edges

-- the directed segments of survivors are sided
abbrev pub DirectedAreSided : Type 0
DirectedAreSided =
    (segs : List Seg) (edges : List Edge) → IsRising seg_cmp segs → conflicts_of segs ≡ [] → HasEvenNodes segs →
    AreDirected segs edges → IsSided edges

-- they are the edges that the odd side directs in the plane
abbrev pub DirectedAreOfPlane : Type 0
DirectedAreOfPlane = (segs : List Seg) (edges : List Edge) → AreDirected segs edges → edges_times 1 edges ≡ directed (plane_edges_of segs)

-- segments are directed to some edges, however much memory there is
abbrev pub DirectionsExist : Type 0
DirectionsExist = (segs : List Seg) → (edges : List Edge) × AreDirected segs edges

-- they are directed to at most one list of edges
abbrev pub DirectionsAreOne : Type 0
DirectionsAreOne = (segs : List Seg) (a b : List Edge) → AreDirected segs a → AreDirected segs b → a ≡ b
