use Rattle.std.proofs.Common.{◌≡◌, take}
use Rattle.std.specs.List.{flat_map}
use Rattle.osm_area.specs.Missing.{way_missing}
use Rattle.osm_area.proofs.missing.all_missing.Given as goal

abbrev pub invariant-loop-way : goal.invariant-loop-way
invariant-loop-way l = l.missing.items ≡ flat_map (way_missing l.store) (take l.way-index l.ways)
