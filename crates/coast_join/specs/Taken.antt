-- Which pairs of ends and starts are taken.
use Rattle.std.specs.Prelude.{◌≡◌, ◌≢◌, ◌↔◌, ◌<◌, ℤ, List, length, All, Contains}
use Rattle.std.specs.declared.cmp.Ordering.{Ordering}
use Rattle.std.specs.declared.cmp.Ordering.TheVariants.{Less}
use Rattle.std.specs.Ordering.{int_cmp, nat_cmp, on, then_cmp}
use Rattle.lists.specs.Rising.{IsRising}
use Rattle.coast_join.specs.declared.gap.Gap.{Gap}
use Rattle.coast_join.specs.ById.{id_at}

-- The order of pairs of chains with these names: by the squared distance, then by the name of the ending chain, then by that of the starting chain.
abbrev pub named_gap_cmp : List ℤ → Gap → Gap → Ordering
named_gap_cmp names = then_cmp (on (λ g. g.square) nat_cmp) (then_cmp (on (λ g. id_at names g.from_chain) int_cmp) (on (λ g. id_at names g.to_chain) int_cmp))

-- no lesser one of these has the same ending chain or the same starting chain
abbrev pub IsFree : (Gap → Gap → Ordering) → List Gap → Gap → Type 0
IsFree cmp taken g = All (λ h. cmp h g ≡ Less → (h.from_chain ≢ g.from_chain) × (h.to_chain ≢ g.to_chain)) taken

-- a pair is taken exactly if no lesser taken pair has the same ending chain or the same starting chain; the taken ones are in order
pub record AreTaken (cmp : Gap → Gap → Ordering) (pairs taken : List Gap) : Type 0 where
  pub rising : IsRising cmp taken
  pub exact : (g : Gap) → Contains taken g ↔ (Contains pairs g × IsFree cmp taken g)

-- for pairs of chains whose names rise, there is at most one list of those that are taken
abbrev pub TakenAreOne : Type 0
TakenAreOne = (names : List ℤ) (pairs taken others : List Gap) → IsRising int_cmp names → All (λ g. (g.from_chain < length names) × (g.to_chain < length names)) pairs →
    AreTaken (named_gap_cmp names) pairs taken → AreTaken (named_gap_cmp names) pairs others → taken ≡ others
