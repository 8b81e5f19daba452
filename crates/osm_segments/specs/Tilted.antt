-- The plane, tilted a little: of two points, the one that comes later by y and then by x is higher.
-- No segment is horizontal there.
use Rattle.std.specs.Prelude.{ℤ, pos, ◌*ℤ◌, ◌+ℤ◌}
use Rattle.plane.specs.Edge.{Edge}
use Rattle.plane.specs.Vector.{Vector}
use Rattle.osm_lattice.specs.declared.loc.Loc.{Loc}
use Rattle.osm_lattice.specs.declared.seg.Seg.{Seg}
use Rattle.osm_lattice.specs.Loc.{vector_of}

-- more than any difference of two longitudes
abbrev pub steep : ℤ
steep = pos 4_294_967_296

abbrev pub tilt : Vector → Vector
tilt v = record { x = v.x; y = steep *ℤ v.y +ℤ v.x }

abbrev pub tilted_point : Loc → Vector
tilted_point p = tilt (vector_of p)

abbrev pub tilted : Seg → Edge
tilted s = record { from = tilted_point s.a; to = tilted_point s.b }
