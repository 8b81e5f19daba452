-- Directions that follow from earlier segments: if only two segments end at a node, one leaves it as the other enters it.
-- No public contract cites this.
use Rattle.std.specs.Prelude.{Bool, List, None, Option, Some, cond, length, slice_index_or, ℕ, ◌<◌, ◌≡◌, ◌≤◌, ◌⊎◌}
use Rattle.plane_lists.specs.Lists.OddSide as odd_side
use Rattle.osm_lattice.specs.declared.loc.Loc.{Loc}
use Rattle.osm_lattice.specs.declared.seg.Seg.{Seg}
use Rattle.osm_lattice.specs.Seg.{edge_of}
use Rattle.osm_sides.specs.Survivors.{plane_edges_of}

-- p is an end of s
abbrev pub IsEnd : Loc → Seg → Type 0
IsEnd p s = (s.a ≡ p) ⊎ (s.b ≡ p)

-- the end that s runs to if it runs up, or down
abbrev pub stop_of : Bool → Seg → Loc
stop_of up s = cond up s.b s.a

-- the segment at the other place ends at p, and no further one does
pub record IsSoleOther (segs : List Seg) (place : ℕ) (p : Loc) (other : ℕ) : Type 0 where
  pub inside : other < length segs
  pub ends : (d : Seg) → IsEnd p (slice_index_or segs other d)
  pub sole : (k : ℕ) (d : Seg) → k < length segs → IsEnd p (slice_index_or segs k d) → (k ≡ place) ⊎ (k ≡ other)

-- what was found among the first segments: no other that ends at p, or exactly one
abbrev pub AreOthersUpTo : List Seg → ℕ → Loc → ℕ → Option ℕ → Type 0
AreOthersUpTo segs place p n None = (k : ℕ) (d : Seg) → k < n → IsEnd p (slice_index_or segs k d) → k ≡ place
AreOthersUpTo segs place p n (Some other) =
    (other < length segs) × ((d : Seg) → IsEnd p (slice_index_or segs other d)) × ((k : ℕ) (d : Seg) → k < n → IsEnd p (slice_index_or segs k d) → (k ≡ place) ⊎ (k ≡ other))

-- the odd side makes the segment at the place run up, or down
abbrev pub IsDirection : List Seg → ℕ → Bool → Type 0
IsDirection segs place up = (d : Seg) → up ≡ odd_side.runs_up_by_odd_side (plane_edges_of segs) (edge_of (slice_index_or segs place d))

-- the directions that are known are right
pub record KnownDirectionsAreRight (segs : List Seg) (known : List (Option Bool)) : Type 0 where
  pub room : length segs ≤ length known
  pub right : (place : ℕ) (up : Bool) → place < length segs → slice_index_or known place None ≡ Some up → IsDirection segs place up

-- the place of a segment and its direction
pub record IsDirected (segs : List Seg) (place : ℕ) (up : Bool) : Type 0 where
  pub inside : place < length segs
  pub right : IsDirection segs place up
