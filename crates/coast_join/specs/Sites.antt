-- Words of private clauses on searching for the nearest end or start. No public contract cites them.
use Rattle.std.specs.Prelude.{◌≡◌, ◌⊎◌, ◌≤◌, ℕ, ◌+◌, ◌*◌, Bool, false, true, List, slice_index_or}
use Rattle.osm_lattice.specs.declared.loc.Loc.{Loc}
use Rattle.coast_join.specs.declared.sites.Near.{Near}
use Rattle.coast_join.specs.declared.sites.Site.{Site}
use Rattle.coast_join.specs.Closings.{square_between}

-- a number that orders sites: by the square of the distance, then by the place of the chain, which is below 2 ^ 64
abbrev pub nearness : ℕ → ℕ → ℕ
nearness square chain = square * 18446744073709551616 + chain

abbrev pub near_of : Near → ℕ
near_of near = nearness near.square near.site.chain

abbrev pub nearness_from : Loc → Site → ℕ
nearness_from p s = nearness (square_between p s.at) s.chain

-- whether the chain of a site is marked; chains beyond the marks are
abbrev pub is_gone : List Bool → Site → Bool
is_gone gone s = slice_index_or gone s.chain true

-- a site of these with an unmarked chain, and the square of its distance
pub record IsFreeNear (P : Site → Type 0) (gone : List Bool) (p : Loc) (near : Near) : Type 0 where
  pub stands : P near.site
  pub free : is_gone gone near.site ≡ false
  pub square : near.square ≡ square_between p near.site.at

-- The nearest of these sites with an unmarked chain, if it comes before the best one so far; otherwise that one.
pub record IsNearestSite (P : Site → Type 0) (gone : List Bool) (p : Loc) (best near : Near) : Type 0 where
  pub within : near_of near ≤ near_of best
  pub least : (s : Site) → P s → is_gone gone s ≡ false → near_of near ≤ nearness_from p s
  pub origin : (near ≡ best) ⊎ IsFreeNear P gone p near
