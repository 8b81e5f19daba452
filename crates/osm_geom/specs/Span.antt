-- Edges at the height of a point.
use Rattle.std.specs.Prelude.{Bool, cond, not, pos, ◌&&◌, ◌*ℤ◌, ◌-ℤ◌}
use Rattle.plane.specs.Sign.{Sign, is_minus, is_plus, sign}
use Rattle.osm_geom.specs.declared.edge.Edge.{Edge}
use Rattle.osm_geom.specs.declared.point.Point.{Point}
use Rattle.osm_geom.specs.Edge.{runs_up}
use Rattle.osm_geom.specs.Point.{y_of}

-- Plus if q is higher than p, Null if it is as high, Minus if it is lower
abbrev pub height_order : Point → Point → Sign
height_order p q = sign ((y_of q).num *ℤ pos (y_of p).den -ℤ (y_of p).num *ℤ pos (y_of q).den)

abbrev pub lower_end : Edge → Point
lower_end e = cond (runs_up e) e.from e.to

abbrev pub upper_end : Edge → Point
upper_end e = cond (runs_up e) e.to e.from

-- at is at least as high as the lower end of e and lower than its upper end (half-open rule)
unfoldable pub spans : Edge → Point → Bool
spans e at = not (is_minus (height_order (lower_end e) at)) && is_plus (height_order at (upper_end e))
