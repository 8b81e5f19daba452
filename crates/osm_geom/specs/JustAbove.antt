-- The order of edges from left to right just above the height of a point that they span.
use Rattle.std.specs.Prelude.{Bool, pos, ◌&&◌}
use Rattle.std.specs.declared.cmp.Ordering.{Ordering}
use Rattle.std.specs.Ordering.{is_lt}
use Rattle.plane.specs.Edge as plane
use Rattle.plane.specs.Height.{order_above}
use Rattle.plane.specs.Scale.{scaled_edge}
use Rattle.plane.specs.Vector.{Vector}
use Rattle.osm_geom.specs.declared.edge.Carrier.{Carrier}
use Rattle.osm_geom.specs.declared.edge.Carrier.TheVariants.{OfSeg, Vertical, Horizontal}
use Rattle.osm_geom.specs.declared.edge.Edge.{Edge}
use Rattle.osm_geom.specs.declared.point.Point.{Point}
use Rattle.osm_lattice.specs.OrderLaws.{ordering_of}
use Rattle.osm_geom.specs.Point.{y_of}
use Rattle.osm_lattice.specs.Seg.{edge_of}
use Rattle.osm_geom.specs.Span.{spans}

-- a piece of the carrier's line, between points of whole coordinates
abbrev pub piece_of : Carrier → plane.Edge
piece_of (OfSeg s) = edge_of s
piece_of (Vertical c) = record { from = record { x = c; y = pos 0 }; to = record { x = c; y = pos 1 } }
piece_of (Horizontal d) = record { from = record { x = pos 0; y = d }; to = record { x = pos 1; y = d } }

-- the height of a point, as the point of the line x = 0 at this height, in the plane multiplied by the denominator of its y
abbrev pub height_of : Point → Vector
height_of at = record { x = pos 0; y = (y_of at).num }

-- by where the lines of e and f are at the height of the point, then by their slopes: Less if e is left of f
unfoldable pub just_above_cmp : Edge → Edge → Point → Ordering
just_above_cmp e f at = ordering_of (order_above (height_of at) (scaled_edge (pos (y_of at).den) (piece_of e.carrier)) (scaled_edge (pos (y_of at).den) (piece_of f.carrier)))

-- f spans the height of the point too, and is right of e just above it
abbrev pub is_right_of : Edge → Point → Edge → Bool
is_right_of e at f = spans f at && is_lt (just_above_cmp e f at)
