-- The segments of coastline rings.
use Rattle.std.specs.Prelude.{◌≡◌, List, ◌++◌, drop, take}
use Rattle.std.specs.List.{filter_map, flat_map, zip}
use Rattle.osm_lattice.specs.declared.loc.Loc.{Loc}
use Rattle.osm_lattice.specs.declared.seg.Seg.{Seg}
use Rattle.lists.specs.Rising.{count_of}
use Rattle.osm_lattice.specs.Seg.{seg_cmp, segment_between}
use Rattle.coast_rings.specs.declared.ring.CoastRing.{CoastRing}

-- the steps of a closed line: from each location to the next, and from the last to the first
abbrev pub steps_round : List Loc → List (Loc × Loc)
steps_round path = zip path (drop 1 path ++ take 1 path)

-- the segments of a closed line
abbrev pub segments_round : List Loc → List Seg
segments_round path = filter_map (λ step. segment_between step.0 step.1) (steps_round path)

-- the segments of rings, one ring after the other
abbrev pub all_segments : List CoastRing → List Seg
all_segments rings = flat_map (λ r. segments_round r.path) rings

-- these are the segments of rings, each as often as it occurs there
abbrev pub AreRingSegments : List CoastRing → List Seg → Type 0
AreRingSegments rings segs = (s : Seg) → count_of seg_cmp s segs ≡ count_of seg_cmp s (all_segments rings)
