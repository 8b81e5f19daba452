-- On which side of a segment's line a location lies.
use Rattle.std.specs.Prelude.{Bool}
use Rattle.plane.specs.Sign.{Sign, is_minus, is_plus}
use Rattle.plane.specs.Vector.{orient}
use Rattle.osm_lattice.specs.declared.loc.Loc.{Loc}
use Rattle.osm_lattice.specs.declared.seg.Seg.{Seg}
use Rattle.osm_lattice.specs.Loc.{vector_of}

-- Plus left of the line, Null on it, Minus right of it
abbrev pub side_of_line : Loc → Seg → Sign
side_of_line p s = orient (vector_of s.a) (vector_of s.b) (vector_of p)

unfoldable pub is_left_of_line : Loc → Seg → Bool
is_left_of_line p s = is_plus (side_of_line p s)

unfoldable pub is_right_of_line : Loc → Seg → Bool
is_right_of_line p s = is_minus (side_of_line p s)
