-- How often a location is a lesser or a greater end of segments, and ends that are passed two by two.
-- No public contract cites this.
use Rattle.std.specs.Prelude.{◌≡◌, ◌≤◌, ◌+◌, ◌%◌, ℕ, List, count_by, drop, length}
use Rattle.std.specs.Ordering.{is_eq}
use Rattle.osm_lattice.specs.declared.loc.Loc.{Loc}
use Rattle.osm_lattice.specs.declared.seg.Seg.{Seg}
use Rattle.osm_lattice.specs.Loc.{loc_cmp}

-- how many segments have p as their lesser end
abbrev pub lesser_at : Loc → List Seg → ℕ
lesser_at p segs = count_by (λ s. is_eq (loc_cmp s.a p)) segs

-- how many segments have p as their greater end
abbrev pub greater_at : Loc → List Seg → ℕ
greater_at p segs = count_by (λ s. is_eq (loc_cmp s.b p)) segs

-- some of the lesser ends from i and the greater ones from j are passed, and the parity at each location of those that are left stays the same
pub record ArePassed (lower : List Seg) (i i' : ℕ) (upper : List Seg) (j j' : ℕ) : Type 0 where
  pub lesser : i ≤ i'
  pub greater : j ≤ j'
  pub within_lesser : i' ≤ length lower
  pub within_greater : j' ≤ length upper
  pub some : i + j + 2 ≤ i' + j'
  pub two : (p : Loc) → (lesser_at p (drop i lower) + greater_at p (drop j upper)) % 2 ≡ (lesser_at p (drop i' lower) + greater_at p (drop j' upper)) % 2
