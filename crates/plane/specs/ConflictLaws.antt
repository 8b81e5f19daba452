-- The laws of conflicts, as statements.
use Rattle.std.specs.Prelude.{false, true, ◌≡◌}
use Rattle.plane.specs.Conflict.{IsClearOf, conflicts, crosses, overlaps}
use Rattle.plane.specs.Edge.{Edge, IsRisingEdge, ends_at}
use Rattle.plane.specs.FreeSegment.{Misses}
use Rattle.plane.specs.RayCrossing.{IsOffEdge}
use Rattle.plane.specs.Vector.{Vector}

-- no conflict depends on which of two segments is named first
abbrev pub OverlapIsSymmetric : Type 0
OverlapIsSymmetric = (s t : Edge) → overlaps t s ≡ overlaps s t

abbrev pub CrossingIsSymmetric : Type 0
CrossingIsSymmetric = (s t : Edge) → crosses t s ≡ crosses s t

abbrev pub ConflictIsSymmetric : Type 0
ConflictIsSymmetric = (s t : Edge) → conflicts t s ≡ conflicts s t

-- a segment overlaps itself, so a list without conflicts has no edge twice
abbrev pub SegmentOverlapsItself : Type 0
SegmentOverlapsItself = (s : Edge) → IsRisingEdge s → overlaps s s ≡ true

-- no point of a segment lies strictly between the ends of another one that it doesn't conflict with
abbrev pub ClearSegmentMisses : Type 0
ClearSegmentMisses = (s t : Edge) → IsRisingEdge s → IsRisingEdge t → IsClearOf s t → Misses s.from s.to t

-- an end of a segment that is no end of another one is off the other, if they don't conflict
abbrev pub ClearEndIsOff : Type 0
ClearEndIsOff =
    (v : Vector) (s t : Edge) → IsRisingEdge t → IsClearOf s t → ends_at v s ≡ true → ends_at v t ≡ false →
    IsOffEdge v t
