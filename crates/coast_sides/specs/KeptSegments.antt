-- The segments of kept rings, as they are given to land.
use Rattle.std.specs.Prelude.{◌≡◌, ◌+◌, Bool, IfSome, List, min}
use Rattle.std.specs.List.{list_any}
use Rattle.std.specs.Ordering.{is_eq}
use Rattle.lists.specs.Rising.{count_of}
use Rattle.osm_lattice.specs.declared.seg.Seg.{Seg}
use Rattle.osm_lattice.specs.Seg.{seg_cmp}
use Rattle.osm_segments.specs.Sweep.{EndsRise}
use Rattle.coast_rings.specs.declared.ring.CoastRing.{CoastRing}
use Rattle.coast_sides.specs.declared.kept_segments.EndOrder.{EndOrder}
use Rattle.coast_sides.specs.declared.kept_segments.KeptSegments.{KeptSegments}
use Rattle.coast_sides.specs.Segments.{AreRingSegments, all_segments}

-- segments and the others, each once, in the order of their upper ends
pub record AreByEndsAmong (segs : List Seg) (order : EndOrder) : Type 0 where
  pub once : (s : Seg) → count_of seg_cmp s order.segs ≡ min 1 (count_of seg_cmp s segs + count_of seg_cmp s order.others)
  pub rise : EndsRise order.segs

-- the segments of rings, each as often as it occurs there, and their order, if it is known
pub record AreKeptSegments (rings : List CoastRing) (kept : KeptSegments) : Type 0 where
  pub segs : AreRingSegments rings kept.segs
  pub by_ends : IfSome kept.by_ends (AreByEndsAmong (all_segments rings))

-- a segment is one of these
abbrev pub is_left : List Seg → Seg → Bool
is_left left s = list_any (λ t. is_eq (seg_cmp t s)) left
