-- The departures of edges in order, and the edges that leave a point. No public contract cites this.
use Rattle.std.specs.Prelude.{All, Bool, Contains, List, Option, None, Some, false, get_or, length, map, not, slice_index_or, true, ℕ, ◌&&◌, ◌+◌, ◌<◌, ◌||◌, ◌≡◌, ◌≢◌, ◌≤◌, ◌⊎◌}
use Rattle.std.specs.Ordering.{is_eq, is_lt}
use Rattle.std.specs.List.Sorted.{IsPartitionPoint}
use Rattle.plane.specs.Edge.{Edge}
use Rattle.plane.specs.Vector.{Vector, east, from_to}
use Rattle.osm_geom.specs.declared.edge.Edge as geom
use Rattle.osm_geom.specs.declared.point.Point.{Point}
use Rattle.osm_geom.specs.Edge.{direction_of}
use Rattle.osm_geom.specs.Point.{point_cmp}
use Rattle.osm_rings.specs.declared.departure.Departure.{Departure}
use Rattle.osm_rings.specs.Clockwise.{is_met_before}
use Rattle.osm_rings.specs.Numbered.{edge_at}

-- the point that the edge at a place leaves
abbrev pub start_at : List geom.Edge → ℕ → Option Point
start_at es i = get_or (map (λ e. Some e.from) es) i None

-- two edges at places have the same number exactly if they leave the same point
abbrev pub TellStarts : List geom.Edge → List ℕ → Type 0
TellStarts es numbers = (i j : ℕ) → i < length es → j < length es → ((get_or numbers i 0 ≡ get_or numbers j 0) → start_at es i ≡ start_at es j) × ((start_at es i ≡ start_at es j) → get_or numbers i 0 ≡ get_or numbers j 0)

-- the direction of the edge at a place
abbrev pub direction_at : List geom.Edge → ℕ → Vector
direction_at es k = get_or (map direction_of es) k east

-- the edge of w leaves the point that the edge at its place leaves, in the direction of that edge
pub record IsDepartureOf (es : List geom.Edge) (w : Departure) : Type 0 where
  pub inside : w.place < length es
  pub from : start_at es w.place ≡ Some w.edge.now.from
  pub along : direction_of w.edge.now ≡ direction_at es w.place

-- v is met before w when turning clockwise from the east
abbrev pub points_before : Departure → Departure → Bool
points_before v w = is_met_before east (direction_of v.edge.now) (direction_of w.edge.now)

-- v begins before w, or at the same point and points before it
abbrev pub stands_before : Departure → Departure → Bool
stands_before v w = is_lt (point_cmp v.edge.now.from w.edge.now.from) || (is_eq (point_cmp v.edge.now.from w.edge.now.from) && points_before v w)

-- no departure begins before an earlier one in the list
abbrev pub AreRising : List Departure → Type 0
AreRising ws = (i j : ℕ) (d : Departure) → i ≤ j → j < length ws → is_lt (point_cmp (slice_index_or ws j d).edge.now.from (slice_index_or ws i d).edge.now.from) ≡ false

-- no departure points before an earlier one in the list
abbrev pub AreClockwise : List Departure → Type 0
AreClockwise ws = (i j : ℕ) (d : Departure) → i ≤ j → j < length ws → points_before (slice_index_or ws j d) (slice_index_or ws i d) ≡ false

-- no departure points before an earlier one in the list that begins at the same point
abbrev pub AreClockwiseRound : List Departure → Type 0
AreClockwiseRound ws =
    (i j : ℕ) (d : Departure) → i ≤ j → j < length ws → (slice_index_or ws j d).edge.now.from ≡ (slice_index_or ws i d).edge.now.from →
    points_before (slice_index_or ws j d) (slice_index_or ws i d) ≡ false

-- the departures of all edges, in order of where they begin, and round a point clockwise from the east
pub record AreDepartures (es : List geom.Edge) (ws : List Departure) : Type 0 where
  pub sized : length ws ≡ length es
  pub rising : AreRising ws
  pub round : AreClockwiseRound ws
  pub right : All (IsDepartureOf es) ws
  pub whole : (k : ℕ) → k < length es → (w : Departure) × Contains ws w × (w.place ≡ k)

-- one list or the other has the departure of each of the first n edges
pub record AreInTwoLists (es : List geom.Edge) (n : ℕ) (ws vs : List Departure) : Type 0 where
  pub sized : length ws + length vs ≡ n
  pub whole : (k : ℕ) → k < n → (w : Departure) × (Contains ws w ⊎ Contains vs w) × (w.place ≡ k)
  pub right : All (IsDepartureOf es) ws
  pub others : All (IsDepartureOf es) vs

-- the departures before place i are those that begin before p
abbrev pub IsFirstAt : List Departure → Point → ℕ → Type 0
IsFirstAt ws p i = IsPartitionPoint (λ w. is_lt (point_cmp w.edge.now.from p) ≡ true) (λ w. is_lt (point_cmp w.edge.now.from p) ≡ false) ws i

-- the departures before place i are those that begin at p or before
abbrev pub IsEndAt : List Departure → Point → ℕ → Type 0
IsEndAt ws p i = IsPartitionPoint (λ w. not (is_lt (point_cmp p w.edge.now.from)) ≡ true) (λ w. not (is_lt (point_cmp p w.edge.now.from)) ≡ false) ws i

-- the departures that begin at p, clockwise from the east
pub record AreFrom (ws : List Departure) (p : Point) (vs : List Departure) : Type 0 where
  pub right : All (λ w. Contains ws w × (w.edge.now.from ≡ p)) vs
  pub whole : (w : Departure) → Contains ws w → w.edge.now.from ≡ p → Contains vs w
  pub clockwise : AreClockwise vs

-- where an edge at a place goes
abbrev pub step_at : List Edge → ℕ → Vector
step_at es k = from_to (edge_at es k).from (edge_at es k).to

-- of the edges that leave the end of e, the one at place j is met first when turning clockwise from the direction back
pub record IsFirstFrom (es : List Edge) (e : Edge) (j : ℕ) : Type 0 where
  pub inside : j < length es
  pub leaves : (edge_at es j).from ≡ e.to
  pub first : (k : ℕ) → k < length es → (edge_at es k).from ≡ e.to → is_met_before (from_to e.to e.from) (step_at es k) (step_at es j) ≡ false

-- the place of that edge, if any leaves the end of e
pub record IsFirstMet (es : List Edge) (e : Edge) (r : Option ℕ) : Type 0 where
  pub some : (j : ℕ) → r ≡ Some j → IsFirstFrom es e j
  pub none : r ≡ None → (k : ℕ) → k < length es → (edge_at es k).from ≢ e.to
