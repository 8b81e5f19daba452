use Rattle.std.proofs.Common.{◌≡◌, [], ℤ, length, map, take}
use Rattle.std.specs.List.{flat_map}
use Rattle.osm_area.specs.Missing.{way_missing}
use Rattle.osm_area.specs.Segments.{way_segments}
use Rattle.osm_area.proofs.segments.segments.Given as goal

abbrev pub invariant-loop-way : goal.invariant-loop-way
invariant-loop-way l = record {
  segments : l.segs.items ≡ flat_map (way_segments l.store) (take l.way-index l.ways);
  counts : l.counts.items ≡ map (λ (way : ℤ). length (way_segments l.store way)) (take l.way-index l.ways);
  whole : flat_map (way_missing l.store) (take l.way-index l.ways) ≡ [];
}
