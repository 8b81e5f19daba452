-- Junctions: the nodes at which a ring may go over from running along edges to running against them.
-- No public contract cites this.
use Rattle.std.specs.Prelude.{◌+◌, ◌<◌, ◌≤◌, ◌≡◌, ◌≢◌, ◌⊎◌, ℕ, All, Bool, Contains, List, cond, count_by, false, length, take, true}
use Rattle.std.specs.List.{list_any}
use Rattle.std.specs.List.Sorted.{IsSorted}
use Rattle.std.specs.Ordering.{is_eq, is_lt}
use Rattle.lists.specs.Rising.{IsRising}
use Rattle.osm_geom.specs.declared.edge.Edge.{Edge}
use Rattle.osm_geom.specs.WholeSegment.{IsWholeSegment}
use Rattle.osm_lattice.specs.declared.loc.Loc.{Loc}
use Rattle.osm_lattice.specs.declared.seg.Seg.{Seg}
use Rattle.osm_lattice.specs.Loc.{loc_cmp}
use Rattle.osm_lattice.specs.Seg.{seg_cmp}
use Rattle.coast_rings.specs.declared.ring.CoastRing.{CoastRing}
use Rattle.coast_sides.specs.declared.junctions.Next.{Next}
use Rattle.coast_sides.specs.declared.junctions.Passing.{Passing}
use Rattle.coast_sides.specs.Segments.{steps_round}
use Rattle.coast_sides.specs.Water.{segments_under}
use Rattle.coast_sides.specs.WrongWays.{runs_between}

-- a location is one of these
abbrev pub is_one_of : List Loc → Loc → Bool
is_one_of nodes p = list_any (λ q. is_eq (loc_cmp q p)) nodes

-- ---- where a ring keeps its direction

-- Each edge runs along a whole segment, in order of segments. The nodes are in order, too. To each other location at most one edge comes.
pub record AreJunctions (edges : List Edge) (nodes : List Loc) : Type 0 where
  pub whole : All IsWholeSegment edges
  pub rising : IsRising seg_cmp (segments_under edges)
  pub sorted : IsSorted loc_cmp nodes
  pub one_comes : (p q r : Loc) → list_any (runs_between p r) edges ≡ true → list_any (runs_between q r) edges ≡ true → is_one_of nodes r ≡ false → p ≡ q

-- each step of a closed line that comes to no node runs along an edge or against one
abbrev pub RunsOn : List Edge → List Loc → List Loc → Type 0
RunsOn edges nodes path =
    (p q : Loc) → Contains (steps_round path) (p, q) → p ≢ q → is_one_of nodes q ≡ false → (list_any (runs_between p q) edges ≡ true) ⊎ (list_any (runs_between q p) edges ≡ true)

abbrev pub AllRunOn : List Edge → List Loc → List CoastRing → Type 0
AllRunOn edges nodes rings = (ring : CoastRing) → Contains rings ring → RunsOn edges nodes ring.path

-- ---- how they are found

-- What is known of ends that were passed, of which so many were at each location. None comes after the last one. At most as many as are told
-- were where the last one was, and more than two only at busy locations.
pub record HasPassed (passed : Loc → ℕ) (passing : Passing) : Type 0 where
  pub none_after : (p : Loc) → 0 < passed p → is_lt (loc_cmp passing.last p) ≡ false
  pub told : is_one_of passing.busy.items passing.last ≡ false → passed passing.last ≤ passing.times
  pub few : (p : Loc) → is_one_of passing.busy.items p ≡ false → passed p ≤ 2

-- how many lower ends of the first segments, and how many upper ones of the others, are at a location
abbrev pub ends_passed : List Seg → List Seg → Loc → ℕ
ends_passed lows highs p = count_by (λ s. is_eq (loc_cmp s.a p)) lows + count_by (λ s. is_eq (loc_cmp s.b p)) highs

-- an end that is passed with the first lower and upper ends, after fewer of them
pub record IsNext (lows : List Seg) (lower : ℕ) (highs : List Seg) (upper : ℕ) (next : Next) : Type 0 where
  pub within_lows : next.lower ≤ length lows
  pub within_highs : next.upper ≤ length highs
  pub more : lower + upper < next.lower + next.upper
  pub one : (p : Loc) → ends_passed (take next.lower lows) (take next.upper highs) p ≡ ends_passed (take lower lows) (take upper highs) p + cond (is_eq (loc_cmp next.end p)) 1 0
