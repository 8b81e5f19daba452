-- Words of private clauses on putting ways together. No public contract cites them.
use Rattle.std.specs.Prelude.{◌≡◌, ◌<◌, ◌-◌, ℕ, suc, Bool, true, All, List, [], length, map, slice_index_or}
use Rattle.osm_lattice.specs.declared.loc.Loc.{Loc}
use Rattle.coast_join.specs.declared.chain.Chain.{Chain}
use Rattle.coast_rings.specs.Line.{IsLine, first_location, last_location}
use Rattle.coast_join.specs.declared.way.CoastWay.{CoastWay}
use Rattle.coast_join.specs.Chains.{WayPath, joined_path, line_at, way_path_of}

-- the way at a place
abbrev pub member : List CoastWay → ℕ → WayPath
member ways i = line_at (map way_path_of ways) i

-- the ways at places
abbrev pub ways_at : List CoastWay → List ℕ → List WayPath
ways_at ways places = map (member ways) places

abbrev pub path_at : List (List Loc) → ℕ → List Loc
path_at paths k = slice_index_or paths k []

-- lines of which each ends where the next starts, and, if they are closed, the last where the first starts
pub record AreLinked (closed : Bool) (paths : List (List Loc)) : Type 0 where
  pub some : 0 < length paths
  pub lines : All IsLine paths
  pub steps : (k : ℕ) → suc k < length paths → last_location (path_at paths k) ≡ first_location (path_at paths (suc k))
  pub closes : closed ≡ true → last_location (path_at paths (length paths - 1)) ≡ first_location (path_at paths 0)

-- the chain of ways one after the other
pub record Makes (lines : List WayPath) (round : Bool) (chain : Chain) : Type 0 where
  pub ways : chain.ways ≡ map (λ (l : WayPath). l.id) lines
  pub name : chain.name ≡ (line_at lines 0).id
  pub closed : chain.closed ≡ round
  pub path : chain.path ≡ joined_path round (map (λ (l : WayPath). l.path) lines)
