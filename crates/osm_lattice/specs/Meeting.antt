-- Points with fractional coordinates on segments.
use Rattle.std.specs.Prelude.{◌≡◌, false, ℤ, pos, ◌*ℤ◌}
use Rattle.plane.specs.Vector.{Vector, cross}
use Rattle.plane.specs.Scale.{scaled_edge}
use Rattle.plane.specs.RayCrossing.{is_off}
use Rattle.osm_lattice.specs.declared.seg.Seg.{Seg}
use Rattle.osm_lattice.specs.declared.frac.Frac.{Frac}
use Rattle.osm_lattice.specs.Loc.{step}
use Rattle.osm_lattice.specs.Seg.{edge_of}

-- a number to multiply the plane by, so that the point (x, y) has whole coordinates
abbrev pub common_den : Frac → Frac → ℤ
common_den x y = pos x.den *ℤ pos y.den

-- the point (x, y) in the plane multiplied by that number
abbrev pub whole_point : Frac → Frac → Vector
whole_point x y = record { x = x.num *ℤ pos y.den; y = y.num *ℤ pos x.den }

-- the point (x, y) lies on s, an end of it or between its ends
abbrev pub IsOnSegment : Seg → Frac → Frac → Type 0
IsOnSegment s x y = is_off (whole_point x y) (scaled_edge (common_den x y) (edge_of s)) ≡ false

-- a point on both of two segments
pub record CommonPoint (s t : Seg) : Type 0 where
  pub x : Frac
  pub y : Frac
  pub on_first : IsOnSegment s x y
  pub on_second : IsOnSegment t x y

-- how two segments slant against each other: 0 if they are parallel
unfoldable pub slant : Seg → Seg → ℤ
slant s t = cross (step s.a s.b) (step t.a t.b)
