-- The pieces of walks, as places and as edges. No public contract cites them.
use Rattle.std.specs.Prelude.{All, Bool, List, [], drop, false, length, map, slice_index_or, take, true, ℕ, ◌++◌, ◌<◌, ◌∷◌, ◌≡◌, ◌≢◌}
use Rattle.orbits.specs.Along.{StandAlong}
use Rattle.orbits.specs.Cutting.{AreCutOff}
use Rattle.orbits.specs.declared.passing.ClosedWalks.{ClosedWalks}
use Rattle.osm_geom.specs.declared.edge.Edge as geom
use Rattle.osm_rings.specs.RingList.{AreRingsOf}

-- the pieces that are cut off the walks, one walk after the other
abbrev pub AreAllCut : List ℕ → List (List ℕ) → List (List ℕ) → Type 0
AreAllCut numbers [] pieces = pieces ≡ []
AreAllCut numbers (w ∷ ws) pieces = (ps : List (List ℕ)) × (qs : List (List ℕ)) × (pieces ≡ ps ++ qs) × AreCutOff numbers w ps × AreAllCut numbers ws qs

-- no other place has the number of one that isn't marked
abbrev pub HaveOwnNumbers : List ℕ → List Bool → Type 0
HaveOwnNumbers numbers marks = (i j : ℕ) → i < length numbers → j < length numbers → slice_index_or marks i true ≡ false → slice_index_or numbers i 0 ≡ slice_index_or numbers j 0 → i ≡ j

-- walks one after the other, each of places below n, none of them twice
pub record AreWalksBelow (n : ℕ) (walks : List (List ℕ)) (places sizes : List ℕ) : Type 0 where
  pub along : StandAlong walks places sizes
  pub within : All (λ w. All (λ i. i < n) w) walks
  pub some : All (λ w. 0 < length w) walks
  pub once : All (λ w. (i j : ℕ) → i < j → j < length w → slice_index_or w i 0 ≢ slice_index_or w j 0) walks

-- the pieces that are cut off a walk come after the earlier ones
pub record AreAdded (numbers walk : List ℕ) (old new : ClosedWalks) : Type 0 where
  pub pieces : List (List ℕ)
  pub cut : AreCutOff numbers walk pieces
  pub along : (before : List (List ℕ)) → StandAlong before old.places.items old.sizes.items → StandAlong (before ++ pieces) new.places.items new.sizes.items

-- pieces one after the other that are cut off these walks
pub record AreCutAlong (numbers : List ℕ) (walks : List (List ℕ)) (places sizes : List ℕ) : Type 0 where
  pub pieces : List (List ℕ)
  pub cut : AreAllCut numbers walks pieces
  pub along : StandAlong pieces places sizes

-- the edges at these places
abbrev pub edges_at : List geom.Edge → List ℕ → List geom.Edge
edges_at es [] = []
edges_at es (k ∷ ks) = take 1 (drop k es) ++ edges_at es ks

-- `places` has walks one after the other, and the edges that they pass are the rings
pub record AreRingsAlong (es : List geom.Edge) (places sizes : List ℕ) : Type 0 where
  pub walks : List (List ℕ)
  pub along : StandAlong walks places sizes
  pub within : All (λ w. All (λ k. k < length es) w) walks
  pub rings : AreRingsOf es (map (edges_at es) walks)
