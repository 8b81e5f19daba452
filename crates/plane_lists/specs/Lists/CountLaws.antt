-- What the crossings of a ray count, as statements.
use Rattle.std.specs.Prelude.{All, List, ◌≡◌}
use Rattle.std.specs.List.{count_by}
use Rattle.plane.specs.Edge.{Edge, IsRisingEdge}
use Rattle.plane.specs.Height.{is_left_of}
use Rattle.plane.specs.RayCrossing.{is_crossed}
use Rattle.plane.specs.Vector.{Vector, east}
use Rattle.plane_lists.specs.Lists.EdgeList.{crossing_count}

-- the edges that the ray crosses
abbrev pub CountIsOfCrossedEdges : Type 0
CountIsOfCrossedEdges =
    (d p : Vector) (es : List Edge) → crossing_count d p es ≡ count_by (is_crossed d p) es

-- the ray to the right: the segments that span the height of p and have p on their left
abbrev pub CountIsOfSegmentsRight : Type 0
CountIsOfSegmentsRight =
    (p : Vector) (es : List Edge) → All IsRisingEdge es → crossing_count east p es ≡ count_by (is_left_of p) es
