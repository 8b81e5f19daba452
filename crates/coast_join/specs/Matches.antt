-- Words of private clauses on taking the nearest pairs. No public contract cites them.
use Rattle.std.specs.Prelude.{◌≡◌, ◌⊎◌, ◌<◌, ◌≤◌, ◌*◌, ℕ, Bool, false, true, not, All, Contains, List, count_by, slice_index_or}
use Rattle.osm_lattice.specs.declared.loc.Loc.{Loc}
use Rattle.coast_join.specs.declared.closing.OpenEnds.{OpenEnds}
use Rattle.coast_join.specs.declared.gap.Gap.{Gap}
use Rattle.coast_join.specs.declared.nearest_pairs.Match.{Match}
use Rattle.coast_join.specs.declared.nearest_pairs.Matching.{Matching}
use Rattle.coast_join.specs.declared.site_tree.SiteTree.{SiteTree}
use Rattle.coast_join.specs.declared.sites.Near.{Near}
use Rattle.coast_join.specs.declared.sites.Site.{Site}
use Rattle.coast_join.specs.Closings.{square_between}
use Rattle.coast_join.specs.GapSteps.{gap_cmp}
use Rattle.coast_join.specs.SiteTrees.{IsSiteTree}
use Rattle.coast_join.specs.Sites.{IsFreeNear, is_gone, near_of, nearness, nearness_from}
use Rattle.coast_join.specs.Taken.{IsFree}

abbrev pub end_site : OpenEnds → Site
end_site e = record { at = e.end; chain = e.chain }

abbrev pub start_site : OpenEnds → Site
start_site e = record { at = e.start; chain = e.chain }

-- a number that falls from each pair to a nearer one
abbrev pub weight : Match → ℕ
weight m = nearness m.to.square m.from.chain

-- the pair as a gap
abbrev pub matched_gap : Match → Gap
matched_gap m = record { square = m.to.square; from_chain = m.from.chain; to_chain = m.to.site.chain }

-- an end, and the start that is the nearest to it, among those whose chains are not marked
pub record IsChoice (ends starts : SiteTree) (m : Match) : Type 0 where
  pub stands : Contains ends.sites.items m.from
  pub free : is_gone ends.gone.items m.from ≡ false
  pub to : IsFreeNear (Contains starts.sites.items) starts.gone.items m.from.at m.to
  pub least : (s : Site) → Contains starts.sites.items s → is_gone starts.gone.items s ≡ false → near_of m.to ≤ nearness_from m.from.at s

-- such a pair whose end is also the nearest to that start
pub record IsMutual (ends starts : SiteTree) (m : Match) : Type 0 where
  pub choice : IsChoice ends starts m
  pub back : (s : Site) → Contains ends.sites.items s → is_gone ends.gone.items s ≡ false → weight m ≤ nearness_from m.to.site.at s

abbrev pub is_chain_marked : List Bool → ℕ → Bool
is_chain_marked marks chain = slice_index_or marks chain true

-- the start that is the nearest to a location, and nearer than the limit
pub record IsNearestStart (starts : SiteTree) (limit : ℕ) (p : Loc) (near : Near) : Type 0 where
  pub to : IsFreeNear (Contains starts.sites.items) starts.gone.items p near
  pub below : near.square < limit * limit
  pub least : (s : Site) → Contains starts.sites.items s → is_gone starts.gone.items s ≡ false → near_of near ≤ nearness_from p s

-- no start with an unmarked chain is nearer than the limit
abbrev pub IsFarFromStarts : SiteTree → ℕ → Loc → Type 0
IsFarFromStarts starts limit p = (s : Site) → Contains starts.sites.items s → is_gone starts.gone.items s ≡ false → s.chain < 18446744073709551616 → limit * limit ≤ square_between p s.at

-- a pair of an end and a start that are nearer than the limit
pub record IsNearPair (limit : ℕ) (ends starts : List Site) (g : Gap) : Type 0 where
  pub from : Site
  pub to : Site
  pub from_in : Contains ends from
  pub to_in : Contains starts to
  pub square : g.square ≡ square_between from.at to.at
  pub near : g.square < limit * limit
  pub from_chain : g.from_chain ≡ from.chain
  pub to_chain : g.to_chain ≡ to.chain

-- of the pairs whose end or start is marked, exactly those are taken that are free of lesser taken pairs
pub record AreTakenSoFar (P : Gap → Type 0) (ended started : List Bool) (taken : List Gap) : Type 0 where
  pub near : All P taken
  pub ends : All (λ g. is_chain_marked ended g.from_chain ≡ true) taken
  pub starts : All (λ g. is_chain_marked started g.to_chain ≡ true) taken
  pub apart : All (IsFree gap_cmp taken) taken
  pub settled : (g : Gap) → P g → (is_chain_marked ended g.from_chain ≡ true) ⊎ (is_chain_marked started g.to_chain ≡ true) → IsFree gap_cmp taken g → Contains taken g

-- at most one site of each chain, and places of chains below 2 ^ 64
pub record AreSites (sites : List Site) : Type 0 where
  pub small : (s : Site) → Contains sites s → s.chain < 18446744073709551616
  pub one : (s t : Site) → Contains sites s → Contains sites t → s.chain ≡ t.chain → s ≡ t

-- how far the choice has come
pub record HasMatched (limit : ℕ) (m : Matching) : Type 0 where
  pub ends : IsSiteTree m.ends
  pub starts : IsSiteTree m.starts
  pub end_sites : AreSites m.ends.sites.items
  pub start_sites : AreSites m.starts.sites.items
  pub waiting : All (Contains m.ends.sites.items) m.waiting.items
  pub taken : AreTakenSoFar (IsNearPair limit m.ends.sites.items m.starts.sites.items) m.ends.gone.items m.starts.gone.items m.gaps.items

-- the sites are the same, and what was marked stays marked
pub record IsFurther (old new : Matching) : Type 0 where
  pub ends : new.ends.sites.items ≡ old.ends.sites.items
  pub starts : new.starts.sites.items ≡ old.starts.sites.items
  pub marked : (chain : ℕ) → is_chain_marked old.ends.gone.items chain ≡ true → is_chain_marked new.ends.gone.items chain ≡ true

abbrev pub unmarked : Matching → ℕ
unmarked m = count_by not m.ends.gone.items
