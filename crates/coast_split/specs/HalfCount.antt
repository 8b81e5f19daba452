-- What a half counts, on each side of its line.
use Rattle.std.specs.Prelude.{List, pos, ℤ, ◌≡◌}
use Rattle.plane.specs.Sign.{Minus, Plus, sign}
use Rattle.plane.specs.Vector.{Vector}
use Rattle.plane_lists.specs.Halves.Line.{scaled_line, side}
use Rattle.osm_geom.specs.declared.cut.Cut.{Cut}
use Rattle.osm_geom.specs.declared.cut.Side.{Side}
use Rattle.osm_geom.specs.declared.edge.Edge.{Edge}
use Rattle.osm_geom.specs.InPlane.Sided.{signed_count_at}
use Rattle.coast_split.specs.Half.{line_of}
use Rattle.coast_split.specs.SplitTree.{IsOffList}

-- at points p.x / q, p.y / q strictly on the kept side and off the list es, hs has the signed count of es
abbrev pub CountsAsKept : Cut → Side → List Edge → List Edge → Type 0
CountsAsKept cut s es hs =
    (q : ℤ) → sign q ≡ Plus → (p : Vector) → side (scaled_line q (line_of cut s)) p ≡ Plus → IsOffList q p es → signed_count_at q p hs ≡ signed_count_at q p es

-- at points strictly on the other side hs has the signed count 0
abbrev pub CountsNothingBeyond : Cut → Side → List Edge → Type 0
CountsNothingBeyond cut s hs = (q : ℤ) → sign q ≡ Plus → (p : Vector) → side (scaled_line q (line_of cut s)) p ≡ Minus → signed_count_at q p hs ≡ pos 0
