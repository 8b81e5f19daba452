-- Laws of chains, as statements.
use Rattle.std.specs.Prelude.{◌≡◌, ◌≢◌, ◌≤ℤ◌, ℤ, All, count_by, false, List, map, sum_by, true}
use Rattle.std.specs.List.{Contains, IsDistinct}
use Rattle.std.specs.Ordering.{int_cmp, int_eq}
use Rattle.lists.specs.Rising.{IsRising}
use Rattle.coast_join.specs.declared.way.CoastWay.{CoastWay}
use Rattle.coast_join.specs.declared.chain.Chain.{Chain}
use Rattle.coast_join.specs.Chains.{AreChains}
use Rattle.coast_rings.specs.Line.{first_location, last_location}

-- an unclosed chain doesn't end where an unclosed chain starts
abbrev pub UnclosedEndsDiffer : Type 0
UnclosedEndsDiffer = (ways : List CoastWay) (chains : List Chain) → AreChains ways chains → (c d : Chain) → Contains chains c → Contains chains d →
    c.closed ≡ false → d.closed ≡ false → last_location c.path ≢ first_location d.path

-- chains are in order of name
abbrev pub NamesRise : Type 0
NamesRise = (ways : List CoastWay) (chains : List Chain) → AreChains ways chains → IsRising int_cmp (map (λ (c : Chain). c.name) chains)

-- ways have at most one list of chains
abbrev pub ChainsAreOne : Type 0
ChainsAreOne = (ways : List CoastWay) (c d : List Chain) → AreChains ways c → AreChains ways d → c ≡ d

-- ways with different ids have chains
abbrev pub ChainsExist : Type 0
ChainsExist = (ways : List CoastWay) → IsDistinct int_eq (map (λ (w : CoastWay). w.id) ways) → (chains : List Chain) × AreChains ways chains

-- a closed chain is named by its least way
abbrev pub ClosedNamesAreLeast : Type 0
ClosedNamesAreLeast = (ways : List CoastWay) (chains : List Chain) → AreChains ways chains → (c : Chain) → Contains chains c → c.closed ≡ true → All (λ id. c.name ≤ℤ id) c.ways

-- each way occurs in the chains as often as among the ways: once
abbrev pub WaysStandOnce : Type 0
WaysStandOnce = (ways : List CoastWay) (chains : List Chain) → AreChains ways chains → (id : ℤ) →
    sum_by (λ (c : Chain). count_by (int_eq id) c.ways) chains ≡ count_by (int_eq id) (map (λ (w : CoastWay). w.id) ways)
