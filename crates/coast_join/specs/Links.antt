-- Which way goes on to which, by the locations at which the ways end and those at which they start, both in order of id.
use Rattle.std.specs.Prelude.{◌≡◌, ◌↔◌, ℕ, List, length, take, Option, Some, option_map}
use Rattle.std.specs.declared.cmp.Ordering.{Ordering}
use Rattle.std.specs.List.{slice_get}
use Rattle.std.specs.Ordering.{nat_cmp, ordering_then}
use Rattle.osm_lattice.specs.declared.loc.Loc.{Loc}
use Rattle.osm_lattice.specs.Loc.{loc_cmp}
use Rattle.lists.specs.Rising.{count_of}
use Rattle.orbits.specs.Orbits.{after}

-- how many of the locations before place k are p
abbrev pub count_before : Loc → List Loc → ℕ → ℕ
count_before p locs k = count_of loc_cmp p (take k locs)

-- way i ends at a location where way j starts, and as many ways end there before i as start there before j
pub record GoesOnTo (ends starts : List Loc) (i j : ℕ) : Type 0 where
  pub place : Loc
  pub ends_there : slice_get ends i ≡ Some place
  pub starts_there : slice_get starts j ≡ Some place
  pub alike : count_before place ends i ≡ count_before place starts j

-- for each way the one that it goes on to
pub record AreNextWays (ends starts : List Loc) (next : List (Option ℕ)) : Type 0 where
  pub sized : length next ≡ length ends
  pub exact : (i j : ℕ) → (after next i ≡ Some j) ↔ GoesOnTo ends starts i j

-- each location with how often it occurs before
abbrev pub AreNumbered : List Loc → List (Loc × ℕ) → Type 0
AreNumbered locs keys = (k : ℕ) → slice_get keys k ≡ option_map (λ p. (p, count_before p locs k)) (slice_get locs k)

abbrev pub key_cmp : Loc × ℕ → Loc × ℕ → Ordering
key_cmp a b = ordering_then (loc_cmp a.0 b.0) (nat_cmp a.1 b.1)
