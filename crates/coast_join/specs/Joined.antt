-- Chains joined to rings.
use Rattle.std.specs.Prelude.{◌≡◌, ◌↔◌, ◌++◌, ◌≤ℤ◌, ℕ, ℤ, Bool, false, true, not, if◌then◌else◌, List, [], ◌∷◌, length, filter, All, Contains, Option, Some, is_some}
use Rattle.std.specs.List.{AllZip, filter_map, flat_map, list_any, slice_get}
use Rattle.std.specs.List.Sorted.{IsPermutation}
use Rattle.std.specs.Ordering.{int_cmp, on}
use Rattle.osm_lattice.specs.declared.loc.Loc.{Loc}
use Rattle.lists.specs.Rising.{IsRising}
use Rattle.orbits.specs.Orbits.{AreOrbits, AreOrbitsInOrder, after, last_number}
use Rattle.coast_join.specs.declared.chain.Chain.{Chain}
use Rattle.coast_join.specs.declared.gap.Closings.{Closings}
use Rattle.coast_join.specs.declared.gap.Gap.{Gap}
use Rattle.coast_rings.specs.declared.ring.CoastRing.{CoastRing}
use Rattle.coast_join.specs.declared.joined.Joined.{Joined}
use Rattle.coast_join.specs.ById.{id_at}
use Rattle.coast_join.specs.Closings.{is_antarctic, is_open}
use Rattle.coast_rings.specs.Round.{once_round}
use Rattle.coast_rings.specs.Corners.{south_east, south_west}

-- a gap leads from the end of chain i to the start of chain j
abbrev pub Leads : List Gap → ℕ → ℕ → Type 0
Leads gaps i j = (g : Gap) × Contains gaps g × (g.from_chain ≡ i) × (g.to_chain ≡ j)

-- What each chain goes on to: one that takes part in gaps goes on to where a gap leads.
-- Every other one is closed and goes on to itself.
pub record AreNext (chains : List Chain) (gaps : List Gap) (next : List (Option ℕ)) : Type 0 where
  pub sized : length next ≡ length chains
  pub leads : (i : ℕ) (c : Chain) → slice_get chains i ≡ Some c → is_open c ≡ true → (j : ℕ) → (after next i ≡ Some j) ↔ Leads gaps i j
  pub stays : (i : ℕ) (c : Chain) → slice_get chains i ≡ Some c → is_open c ≡ false → after next i ≡ Some i

-- the chains at places
abbrev pub chains_at : List Chain → List ℕ → List Chain
chains_at chains places = filter_map (slice_get chains) places

abbrev pub ways_of : List Chain → List ℤ
ways_of chains = flat_map (λ c. c.ways) chains

abbrev pub locations_along : List Chain → List Loc
locations_along chains = flat_map (λ c. c.path) chains

-- the corners by which a chain round Antarctica is closed
abbrev pub corners : List Loc
corners = south_west ∷ (south_east ∷ [])

-- an unclosed chain of chains one after the other
pub record IsUnclosed (parts : List Chain) (chain : Chain) : Type 0 where
  pub ways : chain.ways ≡ ways_of parts
  pub name : chain.name ≡ id_at chain.ways 0
  pub path : chain.path ≡ locations_along parts
  pub closed : chain.closed ≡ false

-- the least id
pub record IsLeast (ids : List ℤ) (id : ℤ) : Type 0 where
  pub stands : Contains ids id
  pub least : All (λ other. id ≤ℤ other) ids

-- The path of the ring of chains: their paths one after the other.
-- Round Antarctica the corners follow, and equal neighbours are taken once.
abbrev pub ring_path : List Chain → List Loc
ring_path parts = if list_any is_antarctic parts then once_round (locations_along parts ++ corners) else locations_along parts

-- a ring of chains one after the other
pub record IsCoastRing (parts : List Chain) (ring : CoastRing) : Type 0 where
  pub name : IsLeast (ways_of parts) ring.name
  pub path : ring.path ≡ ring_path parts

abbrev pub is_closed_orbit : List (Option ℕ) → List ℕ → Bool
is_closed_orbit next orbit = is_some (after next (last_number orbit))

-- What becomes of chains: each orbit of what they go on to is a ring or an unclosed chain. Both are in strict order of name.
pub record AreJoined (chains : List Chain) (closings : Closings) (joined : Joined) : Type 0 where
  pub next : List (Option ℕ)
  pub are_next : AreNext chains closings.gaps next
  pub orbits : List (List ℕ)
  pub are_orbits : AreOrbits next orbits
  pub in_order : AreOrbitsInOrder next orbits
  pub rings : List CoastRing
  pub each_ring : AllZip (λ o r. IsCoastRing (chains_at chains o) r) (filter (is_closed_orbit next) orbits) rings
  pub same : IsPermutation rings joined.rings
  pub rings_rise : IsRising (on (λ (r : CoastRing). r.name) int_cmp) joined.rings
  pub each_unclosed : AllZip (λ o c. IsUnclosed (chains_at chains o) c) (filter (λ o. not (is_closed_orbit next o)) orbits) joined.unclosed
  pub unclosed_rise : IsRising (on (λ (c : Chain). c.name) int_cmp) joined.unclosed
