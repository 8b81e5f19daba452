-- Rings sorted out by their conflicts.
use Rattle.std.specs.Prelude.{◌≡◌, ◌||◌, Bool, not, List, [], filter, is_some}
use Rattle.std.specs.List.{list_any}
use Rattle.std.specs.Ordering.{is_eq}
use Rattle.osm_lattice.specs.declared.seg.Seg.{Seg}
use Rattle.osm_lattice.specs.Conflict.{conflict_of}
use Rattle.osm_lattice.specs.Seg.{seg_cmp}
use Rattle.osm_segments.specs.declared.pairs.Pair.{Pair}
use Rattle.osm_segments.specs.Counts.{AreDistinct}
use Rattle.osm_segments.specs.Pairs.{conflicts_of}
use Rattle.coast_rings.specs.declared.ring.CoastRing.{CoastRing}
use Rattle.coast_sides.specs.declared.sorted.Sorted.{Sorted}
use Rattle.coast_sides.specs.Segments.{all_segments, segments_round}

-- a segment conflicts with one of these
abbrev pub conflicts_with : List Seg → Seg → Bool
conflicts_with segs s = list_any (λ t. is_some (conflict_of s t)) segs

-- one of a ring's segments conflicts with one of these
abbrev pub is_left_out : List Seg → CoastRing → Bool
is_left_out segs ring = list_any (conflicts_with segs) (segments_round ring.path)

-- the conflicts of the segments, each of which is taken once
pub record AreConflicts (segs : List Seg) (pairs : List Pair) : Type 0 where
  pub distinct : List Seg
  pub once : AreDistinct segs distinct
  pub are : pairs ≡ conflicts_of distinct

-- A ring is left out if one of its segments, before any cancelling, conflicts with a segment of any ring, itself included.
-- The others are kept, both in order. The pairs are the conflicts of the segments of all rings. Nothing is cut out.
pub record IsSorted (rings : List CoastRing) (sorted : Sorted) : Type 0 where
  pub left_out : sorted.left_out ≡ filter (is_left_out (all_segments rings)) rings
  pub kept : sorted.kept ≡ filter (λ ring. not (is_left_out (all_segments rings) ring)) rings
  pub pairs : AreConflicts (all_segments rings) sorted.pairs
  pub uncut : sorted.cuts ≡ []

-- s is one of a pair
abbrev pub is_in_pair : Seg → Pair → Bool
is_in_pair s pair = is_eq (seg_cmp pair.first s) || is_eq (seg_cmp pair.second s)
