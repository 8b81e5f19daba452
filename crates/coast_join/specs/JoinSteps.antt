-- Words of private clauses on joining chains. No public contract cites them.
use Rattle.std.specs.Prelude.{◌≡◌, ◌≢◌, ◌↔◌, ◌<◌, ℕ, All, Contains, if◌then◌else◌, List, length, Option, Some}
use Rattle.std.specs.List.{slice_get}
use Rattle.orbits.specs.Orbits.{after}
use Rattle.coast_join.specs.declared.chain.Chain.{Chain}
use Rattle.coast_join.specs.declared.gap.Gap.{Gap}
use Rattle.coast_join.specs.Closings.{is_open}
use Rattle.coast_join.specs.Joined.{Leads, chains_at}
use Rattle.coast_rings.specs.Line.{first_location, last_location}

-- for each chain the one to which a gap leads
pub record AreGapLinks (gaps : List Gap) (n : ℕ) (links : List (Option ℕ)) : Type 0 where
  pub sized : length links ≡ n
  pub exact : (i j : ℕ) → (after links i ≡ Some j) ↔ Leads gaps i j

-- what each chain goes on to; those that take part in gaps have links
pub record AreNextBy (links : List (Option ℕ)) (chains : List Chain) (next : List (Option ℕ)) : Type 0 where
  pub sized : length next ≡ length chains
  pub each : (i : ℕ) (c : Chain) → slice_get chains i ≡ Some c → after next i ≡ (if is_open c then after links i else Some i)

-- no chain ends where one starts
abbrev pub EndWhereNoneStarts : List Chain → Type 0
EndWhereNoneStarts parts = (c d : Chain) → Contains parts c → Contains parts d → last_location c.path ≢ first_location d.path

-- at least one place of a chain, and no chain there ends where one there starts
pub record AreParts (chains : List Chain) (places : List ℕ) : Type 0 where
  pub some : 0 < length places
  pub inside : All (λ k. k < length chains) places
  pub apart : EndWhereNoneStarts (chains_at chains places)
