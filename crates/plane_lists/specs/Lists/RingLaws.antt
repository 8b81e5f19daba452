-- One ring, as statements.
use Rattle.std.specs.Prelude.{List, cond, ◌%◌, ◌≡◌}
use lib.IntN.{pos, ◌-ℤ◌}
use Rattle.plane.specs.Edge.{Edge, is_rising, segment_of}
use Rattle.plane.specs.Vector.{Vector, east}
use Rattle.plane_lists.specs.Lists.ConflictFree.{IsConflictFree}
use Rattle.plane_lists.specs.Lists.EdgeList.{crossing_count, winding_number}
use Rattle.lists.specs.Member.{In}
use Rattle.plane_lists.specs.Lists.Ring.{IsAnchor, IsRing, segments_of}

-- a conflict-free list that isn't empty has an anchor
abbrev pub AnchorExists : Type 0
AnchorExists = (x : Edge) (es : List Edge) → In x es → IsConflictFree es → (m : Edge) × IsAnchor m es

-- The winding number of a ring is everywhere its parity if its anchor runs down, and everywhere the negative of it if its anchor runs up.
abbrev pub RingWindsByAnchor : Type 0
RingWindsByAnchor =
    (e : Edge) (es : List Edge) → IsRing es → IsConflictFree (segments_of es) → In e es →
    IsAnchor (segment_of e) (segments_of es) → (p : Vector) →
    winding_number east p es
    ≡ cond (is_rising e) (pos 0 -ℤ pos (crossing_count east p es % 2)) (pos (crossing_count east p es % 2))
