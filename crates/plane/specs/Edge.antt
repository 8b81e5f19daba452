-- Directed edges between points, and segments: edges with their lower end first.
use Rattle.std.specs.Prelude.{Bool, cond, ◌&&◌, ◌||◌, ◌≡◌}
use lib.IntN.{◌-ℤ◌}
use Rattle.plane.specs.Order.{order}
use Rattle.plane.specs.Sign.{Plus, is_null, is_plus, sign}
use Rattle.plane.specs.Vector.{Vector, same_point}

pub record Edge : Type 0 where
  pub from : Vector
  pub to : Vector

abbrev pub same_edge : Edge → Edge → Bool
same_edge s t = same_point s.from t.from && same_point s.to t.to

-- v is an end of e
abbrev pub ends_at : Vector → Edge → Bool
ends_at v e = same_point v e.from || same_point v e.to

-- the other end of an edge that ends at v
abbrev pub other_end : Vector → Edge → Vector
other_end v e = cond (same_point v e.from) e.to e.from

-- e is a segment: its first end comes before its second in the order of points
abbrev pub IsRisingEdge : Edge → Type 0
IsRisingEdge e = order e.from e.to ≡ Plus

-- the same as a test: e runs to its upper end, or along one height to its right end
abbrev pub is_rising : Edge → Bool
is_rising e = is_plus (order e.from e.to)

abbrev pub reversed : Edge → Edge
reversed e = record { from = e.to; to = e.from }

-- the edge with its lower end first
abbrev pub segment_of : Edge → Edge
segment_of e = cond (is_rising e) e (reversed e)

abbrev pub is_horizontal : Edge → Bool
is_horizontal s = is_null (sign (s.to.y -ℤ s.from.y))
