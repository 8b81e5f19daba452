-- Closed walks along edges that pass each of them once, and what is noted on the way. No public contract cites this.
use Rattle.std.specs.Prelude.{All, Bool, List, false, length, slice_index, slice_index_or, take, true, ℕ, ◌+◌, ◌++◌, ◌-◌, ◌<◌, ◌≡◌, ◌≢◌, ◌≤◌}
use Rattle.orbits.specs.Along.{StandAlong}
use Rattle.orbits.specs.Once.{HoldEachOnce}
use Rattle.osm_geom.specs.declared.edge.Edge.{Edge}
use Rattle.osm_rings.specs.Apart.{LeavesFirst}

-- the edge at place j is the first that leaves the end of the one at place i
abbrev pub IsFollower : List Edge → ℕ → ℕ → Type 0
IsFollower es i j = (d : Edge) → LeavesFirst es (slice_index_or es i d).to j

-- the edge at each of these places but the first follows the one at the place before it
abbrev pub FollowAtPlaces : List Edge → List ℕ → Type 0
FollowAtPlaces es places = (k : ℕ) → k + 1 < length places → IsFollower es (slice_index places k) (slice_index places (k + 1))

-- such a walk in which the first edge follows the last
pub record IsClosedWalk (es : List Edge) (places : List ℕ) : Type 0 where
  pub some : 0 < length places
  pub steps : FollowAtPlaces es places
  pub closes : IsFollower es (slice_index places (length places - 1)) (slice_index places 0)

-- closed walks that pass each edge once: their places one after the other, and how many each has
pub record AreWalksOf (es : List Edge) (places sizes : List ℕ) : Type 0 where
  pub walks : List (List ℕ)
  pub each : All (IsClosedWalk es) walks
  pub once : HoldEachOnce (length es) walks
  pub along : StandAlong walks places sizes

-- these are noted at the front of two lists, which have room for them
pub record AreNoted (es : List Edge) (count : ℕ) (places sizes : List ℕ) : Type 0 where
  pub room : length es ≤ length places
  pub fits : count ≤ length sizes
  pub are : AreWalksOf es (take (length es) places) (take count sizes)

-- a place that isn't marked
abbrev pub IsFresh : List Bool → ℕ → Type 0
IsFresh marks place = slice_index_or marks place true ≡ false

-- places below n that differ, each marked
pub record AreMarked (n : ℕ) (marks : List Bool) (places : List ℕ) : Type 0 where
  pub within : All (λ i. i < n) places
  pub apart : (i j : ℕ) → i < j → j < length places → slice_index places i ≢ slice_index places j
  pub marked : All (λ i. slice_index_or marks i false ≡ true) places

-- a closed walk of this size is noted after the earlier places, and is marked as they are
pub record IsNoted (es : List Edge) (done size : ℕ) (old new : List ℕ) (marks : List Bool) : Type 0 where
  pub walk : List ℕ
  pub closed : IsClosedWalk es walk
  pub sized : length walk ≡ size
  pub room : done + size ≤ length es
  pub noted : take (done + size) new ≡ take done old ++ walk
  pub marked : AreMarked (length es) marks (take (done + size) new)
