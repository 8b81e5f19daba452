-- Laws of closed chains and of what gaps give, as statements.
use Rattle.std.specs.Prelude.{◌≡◌, ◌≢◌, ◌≤ℤ◌, ℕ, true, List, filter, All, Contains}
use Rattle.coast_join.specs.declared.way.CoastWay.{CoastWay}
use Rattle.coast_join.specs.declared.chain.Chain.{Chain}
use Rattle.coast_join.specs.declared.gap.Closings.{Closings}
use Rattle.coast_join.specs.declared.joined.Joined.{Joined}
use Rattle.coast_join.specs.ById.{id_at}
use Rattle.coast_join.specs.Chains.{AreChains}
use Rattle.coast_join.specs.Closings.{AreClosings, names_of}
use Rattle.coast_join.specs.Joined.{AreJoined, chains_at, is_closed_orbit}
use Rattle.coast_rings.specs.Line.{first_location, last_location}

-- the path of a closed chain doesn't end where it starts: the step from its last location to its first closes it
abbrev pub ClosedEndsDiffer : Type 0
ClosedEndsDiffer = (ways : List CoastWay) (chains : List Chain) → AreChains ways chains → (c : Chain) → Contains chains c → c.closed ≡ true → last_location c.path ≢ first_location c.path

-- chains have at most one `Closings` for a limit
abbrev pub ClosingsAreOne : Type 0
ClosingsAreOne = (ways : List CoastWay) (chains : List Chain) → AreChains ways chains → (limit : ℕ) (closings others : Closings) → AreClosings chains limit closings → AreClosings chains limit others → closings ≡ others

-- chains and their closings have at most one `Joined`
abbrev pub JoinedIsOne : Type 0
JoinedIsOne = (chains : List Chain) (limit : ℕ) (closings : Closings) → AreClosings chains limit closings → (joined other : Joined) → AreJoined chains closings joined → AreJoined chains closings other → joined ≡ other

-- chains have a `Closings` for each limit
abbrev pub ClosingsExist : Type 0
ClosingsExist = (ways : List CoastWay) (chains : List Chain) → AreChains ways chains → (limit : ℕ) → (closings : Closings) × AreClosings chains limit closings

-- chains and their closings have a `Joined`
abbrev pub JoinedExists : Type 0
JoinedExists = (ways : List CoastWay) (chains : List Chain) → AreChains ways chains → (limit : ℕ) (closings : Closings) → AreClosings chains limit closings → (joined : Joined) × AreJoined chains closings joined

-- the first of these chains has the least name
abbrev pub BeginsWithLeastName : List Chain → Type 0
BeginsWithLeastName parts = All (λ (c : Chain). id_at (names_of parts) 0 ≤ℤ c.name) parts

-- each ring begins with the chain of the least name among its chains
abbrev pub RingsBeginLeast : Type 0
RingsBeginLeast = (ways : List CoastWay) (chains : List Chain) → AreChains ways chains → (closings : Closings) (joined : Joined) (are : AreJoined chains closings joined) →
    All (λ o. BeginsWithLeastName (chains_at chains o)) (filter (is_closed_orbit are.next) are.orbits)
