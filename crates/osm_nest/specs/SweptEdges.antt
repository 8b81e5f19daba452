-- The edges of rings in a sweep. No public contract cites them.
use Rattle.std.specs.Prelude.{All, Bool, List, None, Option, Some, [], false, get_or, insert, length, slice_index_or, suc, take, true, zero, ℕ, ◌⊎◌, ◌&&◌, ◌+◌, ◌-◌, ◌<◌, ◌≡◌, ◌≤◌}
use Rattle.std.specs.Ordering.{is_lt}
use Rattle.lists.specs.Member.{In}
use Rattle.osm_geom.specs.declared.edge.Edge.{Edge}
use Rattle.osm_geom.specs.JustAbove.{just_above_cmp}
use Rattle.osm_geom.specs.Span.{lower_end, spans}
use Rattle.osm_nest.specs.declared.sweep.ring_edge.RingEdge.{RingEdge}
use Rattle.osm_geom.specs.declared.point.Point.{Point}
use Rattle.osm_geom.specs.Point.{point_cmp}
use Rattle.osm_nest.specs.Beside.{IsSloping}
use Rattle.osm_nest.specs.Enclosers.{IsDirectEncloser}
use Rattle.osm_nest.specs.Outer.{IsAnchorOf, IsInner, IsOuter}

-- an edge of the ring at its place that isn't horizontal
pub record IsSlopingEdge (rs : List (List Edge)) (i : RingEdge) : Type 0 where
  pub inside : i.ring < length rs
  pub member : In i.edge.now (get_or rs i.ring [])
  pub sloping : IsSloping i.edge.now

-- all such edges
pub record AreSlopingEdges (rs : List (List Edge)) (items : List RingEdge) : Type 0 where
  pub each : All (IsSlopingEdge rs) items
  pub whole : (k : ℕ) → k < length rs → (e : Edge) → In e (get_or rs k []) → IsSloping e → (i : RingEdge) × In i items × (i.edge.now ≡ e)

-- it spans the height of a point
abbrev pub is_within : Point → RingEdge → Bool
is_within at i = spans i.edge.now at

-- both span that height, and f is left of g just above it
abbrev pub left_at : Point → Edge → Edge → Bool
left_at at f g = (spans f at && spans g at) && is_lt (just_above_cmp f g at)

-- an edge was put between two that are left and right of it
pub record IsPut (at : Point) (i : RingEdge) (old new : List RingEdge) : Type 0 where
  pub place : ℕ
  pub within : place ≤ length old
  pub before : 0 < place → left_at at (slice_index_or old (place - 1) i).edge.now i.edge.now ≡ true
  pub after : place < length old → left_at at i.edge.now (slice_index_or old place i).edge.now ≡ true
  pub is : new ≡ insert old place i

-- n edges from a place on, each of which spans the height, were put one after the other
abbrev pub PutRow : Point → List RingEdge → ℕ → ℕ → List RingEdge → List RingEdge → Type 0
PutRow at items from zero old new = new ≡ old
PutRow at items from (suc n) old new =
    (between : List RingEdge) × (i : RingEdge) × (i ≡ slice_index_or items (from + n) i) × (is_within at i ≡ true) × PutRow at items from n old between × IsPut at i between new

-- the edges from a place up to another, which span the height, were put, and the next one doesn't span it
pub record IsRowPut (at : Point) (items : List RingEdge) (from to : ℕ) (old new : List RingEdge) : Type 0 where
  pub within : to ≤ length items
  pub size : ℕ
  pub up_to : to ≡ from + size
  pub put : PutRow at items from size old new
  pub ended : (d : RingEdge) → to < length items → is_within at (slice_index_or items to d) ≡ false

-- e comes just before an edge that isn't left of a, and e is left of a
pub record HasNeighbour (a : Edge) (status : List RingEdge) (e : RingEdge) : Type 0 where
  pub place : ℕ
  pub inside : place + 1 < length status
  pub is : slice_index_or status place e ≡ e
  pub left : left_at (lower_end a) e.edge.now a ≡ true
  pub next : left_at (lower_end a) (slice_index_or status (place + 1) e).edge.now a ≡ false

-- none begins before an earlier one
abbrev pub StartsRise : List RingEdge → Type 0
StartsRise items = (i j : ℕ) (d : RingEdge) → i ≤ j → j < length items → is_lt (point_cmp (lower_end (slice_index_or items j d).edge.now) (lower_end (slice_index_or items i d).edge.now)) ≡ false

-- an item was put into a list
pub record IsOneMore (i : RingEdge) (old new : List RingEdge) : Type 0 where
  pub kept : (x : RingEdge) → In x old → In x new
  pub has : In i new
  pub only : (x : RingEdge) → In x new → (In x old) ⊎ (x ≡ i)

-- of the first n edges of the ring at a place, those that aren't horizontal were added
pub record AreRingEdges (place n : ℕ) (ring : List Edge) (old new : List RingEdge) : Type 0 where
  pub kept : (i : RingEdge) → In i old → In i new
  pub added : (i : RingEdge) → In i new → (In i old) ⊎ ((i.ring ≡ place) × In i.edge.now (take n ring) × IsSloping i.edge.now)
  pub whole : (e : Edge) → In e (take n ring) → IsSloping e → (i : RingEdge) × In i new × (i.edge.now ≡ e)

-- the anchor of an inner ring, and the place of the ring
pub record IsInnerAnchor (rs : List (List Edge)) (a : RingEdge) : Type 0 where
  pub inside : a.ring < length rs
  pub inner : IsInner (get_or rs a.ring [])
  pub anchor : IsAnchorOf a.edge.now (get_or rs a.ring [])

-- both begin at one height
abbrev pub begin_level : Edge → Edge → Bool
begin_level e f = spans f (lower_end e) && spans e (lower_end f)

-- the enclosers that are known are right
pub record KnownEnclosersAreRight (rs : List (List Edge)) (known : List (Option ℕ)) : Type 0 where
  pub sized : length known ≡ length rs
  pub right : (place encloser : ℕ) → place < length rs → get_or known place None ≡ Some encloser → IsDirectEncloser rs place (Some encloser)

-- An edge shows the encloser of an anchor's ring: it is the edge's ring, if that is outer, and otherwise the encloser of that ring.
pub record IsTeller (rs : List (List Edge)) (a e : RingEdge) : Type 0 where
  pub inside : e.ring < length rs
  pub outer : IsOuter (get_or rs e.ring []) → IsDirectEncloser rs a.ring (Some e.ring)
  pub inner : (encloser : ℕ) → IsDirectEncloser rs e.ring (Some encloser) → IsDirectEncloser rs a.ring (Some encloser)

-- the neighbour of an anchor in the status shows its encloser
abbrev pub TellsEncloser : List (List Edge) → List RingEdge → RingEdge → Type 0
TellsEncloser rs status a = (e : RingEdge) → HasNeighbour a.edge.now status e → IsTeller rs a e
