-- Segments that are left stand at the front, and those behind the ones passed as they were.
use Rattle.std.proofs.Common.{AllPairs, Bool, get_or, length, take, true, ℕ, ◌+◌, ◌<◌, ◌≡◌, ◌≤◌}
use Rattle.lists.specs.Rising.{count_of}
use Rattle.osm_lattice.specs.Seg.{seg_cmp}
use Rattle.osm_lattice.specs.declared.seg.Seg.{Seg}
use Rattle.coast_sides.proofs.taking_away.take_away.Given as goal

abbrev pub invariant-loop-place : goal.invariant-loop-place
invariant-loop-place l = record {
  within : l.found ≤ length l.away;
  front : l.left ≤ l.place;
  sized : length l.segs.items ≡ length l.fn.segs.items;
  unread : (k : ℕ) (d : Seg) → l.place ≤ k → get_or l.segs.items k d ≡ get_or l.fn.segs.items k d;
  counts : (s : Seg) → count_of seg_cmp s (take l.left l.segs.items) + count_of seg_cmp s (take l.found l.away) ≡ count_of seg_cmp s (take l.place l.fn.segs.items);
  ordered : (r : Seg → Seg → Bool) → AllPairs (λ s t. r s t ≡ true) l.fn.segs.items → AllPairs (λ s t. r s t ≡ true) (take l.left l.segs.items);
  ahead : (r : Seg → Seg → Bool) → AllPairs (λ s t. r s t ≡ true) l.fn.segs.items → (j k : ℕ) (d : Seg) → j < l.left → l.place ≤ k → k < length l.fn.segs.items → r (get_or l.segs.items j d) (get_or l.fn.segs.items k d) ≡ true;
}
