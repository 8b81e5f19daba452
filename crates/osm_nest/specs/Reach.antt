-- The range of x in which an edge lies. No public contract cites this.
use Rattle.std.specs.Prelude.{ℤ}
use Rattle.osm_geom.specs.declared.edge.Edge.{Edge}
use Rattle.osm_geom.specs.Coordinate.{AtLeast, AtMost}
use Rattle.osm_geom.specs.Point.{x_of}

-- the x of both ends is from west to east
abbrev pub IsReach : ℤ → ℤ → Edge → Type 0
IsReach west east e = (AtLeast west (x_of e.from) × AtLeast west (x_of e.to)) × (AtMost (x_of e.from) east × AtMost (x_of e.to) east)
