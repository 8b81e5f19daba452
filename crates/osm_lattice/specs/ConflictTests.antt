-- The tests that define conflicts, on locations and segments: the plane's tests of their points and edges.
use Rattle.std.specs.Prelude.{Bool, ◌&&◌, ◌||◌}
use lib.Signed.{lt_z}
use Rattle.plane.specs.Conflict.{is_inside, is_along, is_touched_by, is_parted_by}
use Rattle.plane.specs.Edge.{ends_at}
use Rattle.plane.specs.Order.{order}
use Rattle.plane.specs.Sign.{is_minus, is_null, is_plus}
use Rattle.plane.specs.Vector.{orient}
use Rattle.osm_lattice.specs.declared.loc.Loc.{Loc}
use Rattle.osm_lattice.specs.declared.seg.Seg.{Seg}
use Rattle.osm_lattice.specs.Line.{side_of_line}
use Rattle.osm_lattice.specs.Loc.{vector_of}
use Rattle.osm_lattice.specs.Seg.{edge_of}

unfoldable pub before : Loc → Loc → Bool
before p q = is_plus (order (vector_of p) (vector_of q))

unfoldable pub on_line : Loc → Seg → Bool
on_line p s = is_null (orient (vector_of s.a) (vector_of s.b) (vector_of p))

unfoldable pub inside : Loc → Seg → Bool
inside p s = is_inside (vector_of p) (edge_of s)

unfoldable pub along : Seg → Seg → Bool
along s t = is_along (edge_of s) (edge_of t)

unfoldable pub touched_by : Seg → Seg → Bool
touched_by s t = is_touched_by (edge_of s) (edge_of t)

unfoldable pub parted_by : Seg → Seg → Bool
parted_by t s = is_parted_by (edge_of t) (edge_of s)

-- both ends of t are strictly on one side of the line of s
unfoldable pub beside : Seg → Seg → Bool
beside t s = (is_plus (side_of_line t.a s) && is_plus (side_of_line t.b s)) || (is_minus (side_of_line t.a s) && is_minus (side_of_line t.b s))

-- an end of s is one of t
unfoldable pub meet_at_end : Seg → Seg → Bool
meet_at_end s t = ends_at (vector_of s.a) (edge_of t) || ends_at (vector_of s.b) (edge_of t)

-- each end of s is left of both ends of t
abbrev pub west : Seg → Seg → Bool
west s t = lt_z s.a.x t.a.x && (lt_z s.a.x t.b.x && (lt_z s.b.x t.a.x && lt_z s.b.x t.b.x))
