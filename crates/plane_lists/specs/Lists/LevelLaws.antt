-- The segments that span the height of a point, as statements.
use Rattle.std.specs.Prelude.{List, false}
use Rattle.std.specs.List.{filter}
use Rattle.plane.specs.Edge.{Edge}
use Rattle.plane.specs.Height.{is_in_span, order_above}
use Rattle.plane.specs.Sign.{is_plus}
use Rattle.plane.specs.Vector.{Vector}
use Rattle.plane_lists.specs.Lists.ConflictFree.{IsConflictFree}
use Rattle.plane_lists.specs.Lists.Rank.{IsOrder}

-- from left to right just above the height
abbrev pub SpanningSegmentsAreOrdered : Type 0
SpanningSegmentsAreOrdered =
    (p : Vector) (es : List Edge) → IsConflictFree es →
    IsOrder false (λ (e f : Edge). is_plus (order_above p e f)) (filter (is_in_span p) es)
