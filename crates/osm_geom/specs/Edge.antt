-- Directed edges, each a part of its carrier.
use Rattle.std.specs.Prelude.{Bool, cond, pos, ◌-ℤ◌}
use Rattle.plane.specs.Sign.{is_plus}
use Rattle.plane.specs.Vector.{Vector}
use Rattle.osm_geom.specs.declared.edge.Edge.{Edge}
use Rattle.osm_geom.specs.Carrier.{rising_of}
use Rattle.osm_geom.specs.Point.{point_order}

-- e runs from its lower end to its upper one, or from its left end to its right one
abbrev pub runs_up : Edge → Bool
runs_up e = is_plus (point_order e.from e.to)

abbrev pub opposite : Vector → Vector
opposite v = record { x = pos 0 -ℤ v.x; y = pos 0 -ℤ v.y }

-- the direction from the first end of e to its second
unfoldable pub direction_of : Edge → Vector
direction_of e = cond (runs_up e) (rising_of e.carrier) (opposite (rising_of e.carrier))
