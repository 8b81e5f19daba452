-- Edges of which no two leave one point, and the places of those that leave points. No public contract cites this.
use Rattle.std.specs.Prelude.{List, None, Option, Some, length, slice_index_or, ℕ, ◌<◌, ◌≡◌, ◌≢◌}
use Rattle.osm_geom.specs.declared.edge.Edge.{Edge}
use Rattle.osm_geom.specs.declared.point.Point.{Point}

-- none of the first edges leaves p
abbrev pub NoneLeavesBefore : List Edge → Point → ℕ → Type 0
NoneLeavesBefore es p n = (i : ℕ) (d : Edge) → i < n → (slice_index_or es i d).from ≢ p

-- the edge at a place leaves p, and none before it does
pub record LeavesFirst (es : List Edge) (p : Point) (place : ℕ) : Type 0 where
  pub inside : place < length es
  pub leaves : (d : Edge) → (slice_index_or es place d).from ≡ p
  pub before : NoneLeavesBefore es p place

-- the place of the first edge that leaves p, if any does
pub record IsFirstLeaving (es : List Edge) (p : Point) (r : Option ℕ) : Type 0 where
  pub some : (place : ℕ) → r ≡ Some place → LeavesFirst es p place
  pub none : r ≡ None → NoneLeavesBefore es p (length es)

-- each edge is the first that leaves its point: no two edges leave one
abbrev pub LeaveApart : List Edge → Type 0
LeaveApart es = (i : ℕ) (d : Edge) → i < length es → LeavesFirst es (slice_index_or es i d).from i
