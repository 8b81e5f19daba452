-- The tests that define the odd side, on locations and segments: the plane's tests of their points and edges.
use Rattle.std.specs.Prelude.{Bool, List, not, ℕ, ◌&&◌}
use Rattle.std.specs.List.{count_by}
use Rattle.plane.specs.Edge.{is_horizontal, same_edge}
use Rattle.plane.specs.Height.{is_in_span, is_left_of, starts_left_of}
use Rattle.plane.specs.Sign.{is_minus}
use Rattle.plane.specs.Vector.{orient, same_point}
use Rattle.osm_lattice.specs.declared.loc.Loc.{Loc}
use Rattle.osm_lattice.specs.declared.seg.Seg.{Seg}
use Rattle.osm_lattice.specs.Loc.{vector_of}
use Rattle.osm_lattice.specs.Seg.{edge_of}

unfoldable pub span : Loc → Seg → Bool
span p t = is_in_span (vector_of p) (edge_of t)

unfoldable pub left_of : Loc → Seg → Bool
left_of p t = is_left_of (vector_of p) (edge_of t)

unfoldable pub starts_left : Seg → Seg → Bool
starts_left s t = starts_left_of (edge_of s) (edge_of t)

unfoldable pub level : Seg → Bool
level s = is_horizontal (edge_of s)

unfoldable pub same : Loc → Loc → Bool
same p q = same_point (vector_of p) (vector_of q)

-- t begins where s does, and runs to the right of it
unfoldable pub forks_right : Seg → Seg → Bool
forks_right s t = same_point (edge_of s).from (edge_of t).from && is_minus (orient (edge_of s).from (edge_of s).to (edge_of t).to)

-- t is another segment than s, and right of it just above its lower end
unfoldable pub counted : Seg → Seg → Bool
counted s t = not (same_edge (edge_of s) (edge_of t)) && starts_left s t

abbrev pub left_count : Loc → List Seg → ℕ
left_count p segs = count_by (left_of p) segs

abbrev pub right_count : Seg → List Seg → ℕ
right_count s segs = count_by (counted s) segs
