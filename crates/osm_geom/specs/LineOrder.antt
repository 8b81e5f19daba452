-- Where lines are at a height, in the numbers that the code computes.
use Rattle.std.specs.Prelude.{ℤ, pos, ◌+ℤ◌, ◌-ℤ◌, ◌*ℤ◌}
use Rattle.std.specs.declared.cmp.Ordering.{Ordering}
use Rattle.std.specs.Ordering.{int_cmp, ordering_then}
use Rattle.plane.specs.Vector.{Vector}
use Rattle.osm_geom.specs.declared.level.Level.{Level}
use Rattle.osm_geom.specs.declared.level.Line.{Line}

-- a point of the line, and the step from there to another one
abbrev pub start_of : Line → Vector
start_of l = record { x = l.x; y = l.y }

abbrev pub step_of : Line → Vector
step_of l = record { x = l.run; y = l.rise }

-- the line's x at a height is this over its rise times the height's denominator
unfoldable pub x_num : Line → Level → ℤ
x_num l h = l.x *ℤ l.rise *ℤ pos h.den +ℤ (h.num -ℤ l.y *ℤ pos h.den) *ℤ l.run

-- by x at the height
abbrev pub place_cmp : Line → Line → Level → Ordering
place_cmp l m h = int_cmp (x_num l h *ℤ m.rise) (x_num m h *ℤ l.rise)

-- by run / rise
abbrev pub slope_cmp : Line → Line → Ordering
slope_cmp l m = int_cmp (l.run *ℤ m.rise) (m.run *ℤ l.rise)

-- by x at the height, then by run / rise
unfoldable pub line_cmp : Line → Line → Level → Ordering
line_cmp l m h = ordering_then (place_cmp l m h) (slope_cmp l m)
