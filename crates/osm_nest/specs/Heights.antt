-- Which whole heights an edge spans. No public contract cites this.
use Rattle.std.specs.Prelude.{ℤ, ◌≡◌}
use Rattle.osm_geom.specs.declared.edge.Edge.{Edge}
use Rattle.osm_geom.specs.Coordinate.{ceiling_of}
use Rattle.osm_geom.specs.Point.{y_of}
use Rattle.osm_geom.specs.Span.{lower_end, upper_end}

-- from the first that is no lower than its lower end, below the first that is no lower than its upper end
abbrev pub AreHeights : ℤ → ℤ → Edge → Type 0
AreHeights bottom top e = (bottom ≡ ceiling_of (y_of (lower_end e))) × (top ≡ ceiling_of (y_of (upper_end e)))
