-- What the points of a segment see of an edge that keeps clear of it, as statements.
use Rattle.std.specs.Prelude.{true, ◌≡◌}
use Rattle.plane.specs.Edge.{Edge, ends_at}
use Rattle.plane.specs.FreeSegment.{IsBetween, Misses}
use Rattle.plane.specs.RayCrossing.{IsOffEdge, down_crossing, up_crossing}
use Rattle.plane.specs.Vector.{Vector, from_to}

-- the segment from s to t is the segment from t to s
abbrev pub MissesBothWays : Type 0
MissesBothWays = (s t : Vector) (e : Edge) → Misses s t e → Misses t s e

-- no inner point of the segment is on the edge
abbrev pub InnerPointIsOff : Type 0
InnerPointIsOff = (s t p : Vector) (e : Edge) → IsBetween s t p → Misses s t e → IsOffEdge p e

-- the ray along the segment crosses the edge from all inner points in the same way, since otherwise the edge would meet the segment in between
abbrev pub InnerPointsSeeAlike : Type 0
InnerPointsSeeAlike =
    (s t p q : Vector) (e : Edge) → IsBetween s t p → IsBetween s t q → Misses s t e →
    (up_crossing (from_to s t) (from_to p e.from) (from_to p e.to) ≡ up_crossing (from_to s t) (from_to q e.from) (from_to q e.to))
    × (down_crossing (from_to s t) (from_to p e.from) (from_to p e.to) ≡ down_crossing (from_to s t) (from_to q e.from) (from_to q e.to))

-- it crosses the edge in the same way from s, if s is not on the edge
abbrev pub EndSeesAlike : Type 0
EndSeesAlike =
    (s t p : Vector) (e : Edge) → IsBetween s t p → Misses s t e → IsOffEdge s e →
    (up_crossing (from_to s t) (from_to p e.from) (from_to p e.to) ≡ up_crossing (from_to s t) (from_to s e.from) (from_to s e.to))
    × (down_crossing (from_to s t) (from_to p e.from) (from_to p e.to) ≡ down_crossing (from_to s t) (from_to s e.from) (from_to s e.to))

-- the ray doesn't cross an edge that ends at s
abbrev pub EdgeAtEndIsNotCrossed : Type 0
EdgeAtEndIsNotCrossed =
    (s t p : Vector) (e : Edge) → IsBetween s t p → Misses s t e → ends_at s e ≡ true →
    (up_crossing (from_to s t) (from_to p e.from) (from_to p e.to) ≡ 0)
    × (down_crossing (from_to s t) (from_to p e.from) (from_to p e.to) ≡ 0)
