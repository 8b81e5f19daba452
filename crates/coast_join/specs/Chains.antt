-- Chains of coastline ways.
use Rattle.std.specs.Prelude.{◌≡◌, ◌++◌, ◌-◌, ℕ, ℤ, pos, Bool, if◌then◌else◌, List, [], ◌∷◌, length, map, slice_index, slice_index_or, Option, is_some}
use Rattle.std.specs.List.{AllZip, flat_map}
use Rattle.std.specs.List.Sorted.{IsPermutation}
use Rattle.std.specs.Ordering.{int_cmp}
use Rattle.osm_lattice.specs.declared.loc.Loc.{Loc}
use Rattle.lists.specs.Rising.{IsRising}
use Rattle.orbits.specs.Orbits.{AreOrbits, AreOrbitsInOrder, after, last_number}
use Rattle.coast_join.specs.declared.way.CoastWay.{CoastWay}
use Rattle.coast_join.specs.declared.chain.Chain.{Chain}
use Rattle.coast_rings.specs.Line.{first_location, front_of, last_location}
use Rattle.coast_join.specs.Links.{AreNextWays}

-- a way's id and locations
pub record WayPath : Type 0 where
  pub id : ℤ
  pub path : List Loc

abbrev pub way_path_of : CoastWay → WayPath
way_path_of w = record { id = w.id; path = w.path }

abbrev pub line_at : List WayPath → ℕ → WayPath
line_at lines i = slice_index_or lines i (record { id = pos 0; path = [] })

-- The paths one after the other, with the location that two share only once: each path without its last location.
-- The last path keeps its own, unless the whole is closed.
abbrev pub joined_path : Bool → List (List Loc) → List Loc
joined_path closed paths = flat_map front_of paths ++ (if closed then [] else last_location (slice_index_or paths (length paths - 1) []) ∷ [])

-- the chain of an orbit, which is a list of places in a list of lines
pub record IsChain (lines : List WayPath) (next : List (Option ℕ)) (orbit : List ℕ) (chain : Chain) : Type 0 where
  pub ways : chain.ways ≡ map (λ i. (line_at lines i).id) orbit
  pub name : chain.name ≡ (line_at lines (slice_index orbit 0)).id
  pub closed : chain.closed ≡ is_some (after next (last_number orbit))
  pub path : chain.path ≡ joined_path chain.closed (map (λ i. (line_at lines i).path) orbit)

-- The chains of ways. The ways are put in order of id.
-- At each location the i-th way that ends there goes on to the i-th that starts there. The chains are the orbits, in order
-- of their first ways, and each cycle begins at its least way.
pub record AreChains (ways : List CoastWay) (chains : List Chain) : Type 0 where
  pub sorted : List WayPath
  pub same : IsPermutation (map way_path_of ways) sorted
  pub rising : IsRising int_cmp (map (λ l. l.id) sorted)
  pub next : List (Option ℕ)
  pub links : AreNextWays (map (λ l. last_location l.path) sorted) (map (λ l. first_location l.path) sorted) next
  pub orbits : List (List ℕ)
  pub are_orbits : AreOrbits next orbits
  pub in_order : AreOrbitsInOrder next orbits
  pub each : AllZip (IsChain sorted next) orbits chains
