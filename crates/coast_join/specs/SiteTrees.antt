-- Words of private clauses on the tree over sites. No public contract cites them.
use Rattle.std.specs.Prelude.{◌≡◌, ◌⊎◌, ◌<◌, ◌≤◌, ◌≤ℤ◌, ◌-◌, ℕ, Bool, true, All, List, length, slice_index_or}
use Rattle.coast_join.specs.declared.bounds.Bounds.{Bounds}
use Rattle.coast_join.specs.declared.site_tree.SiteNode.{SiteNode}
use Rattle.coast_join.specs.declared.site_tree.SiteTree.{SiteTree}
use Rattle.coast_join.specs.declared.site_tree.Stretch.{Stretch}
use Rattle.coast_join.specs.declared.sites.Site.{Site}
use Rattle.coast_join.specs.Sites.{is_gone}

-- a site lies in the rectangle, and the place of its chain is at least the least one
pub record IsInBounds (b : Bounds) (s : Site) : Type 0 where
  pub west : b.west ≤ℤ s.at.x
  pub east : s.at.x ≤ℤ b.east
  pub south : b.south ≤ℤ s.at.y
  pub north : s.at.y ≤ℤ b.north
  pub least : b.least ≤ s.chain

-- a site is in a stretch of the list
pub record Stands (sites : List Site) (stretch : Stretch) (s : Site) : Type 0 where
  pub place : ℕ
  pub from : stretch.first ≤ place
  pub before : place < stretch.end
  pub is : slice_index_or sites place s ≡ s

abbrev pub AreGoneIn : List Site → List Bool → Stretch → Type 0
AreGoneIn sites gone stretch = (s : Site) → Stands sites stretch s → is_gone gone s ≡ true

-- what a node says of its stretch is right
pub record IsRightNode (sites : List Site) (gone : List Bool) (node : SiteNode) : Type 0 where
  pub bounds : (s : Site) → Stands sites node.stretch s → IsInBounds node.bounds s
  pub spent : node.spent ≡ true → AreGoneIn sites gone node.stretch

-- each node is right
pub record IsSiteTree (tree : SiteTree) : Type 0 where
  pub sized : length tree.nodes.items ≡ length tree.sites.items
  pub right : All (IsRightNode tree.sites.items tree.gone.items) tree.nodes.items

-- a place is one of a stretch
abbrev pub IsPlaceOf : ℕ → Stretch → Type 0
IsPlaceOf k s = (s.first ≤ k) × (k < s.end)

-- a stretch has the places of two shorter ones, and no others
pub record AreHalves (whole one other : Stretch) : Type 0 where
  pub all : (k : ℕ) → IsPlaceOf k whole → IsPlaceOf k one ⊎ IsPlaceOf k other
  pub first_in : (k : ℕ) → IsPlaceOf k one → IsPlaceOf k whole
  pub second_in : (k : ℕ) → IsPlaceOf k other → IsPlaceOf k whole
  pub first_end : one.end ≤ whole.end
  pub second_end : other.end ≤ whole.end
  pub first_less : one.end - one.first < whole.end - whole.first
  pub second_less : other.end - other.first < whole.end - whole.first
