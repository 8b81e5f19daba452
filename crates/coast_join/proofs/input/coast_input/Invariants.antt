use Rattle.std.proofs.Common.{◌≡◌, map, take}
use Rattle.std.specs.List.{flat_map}
use Rattle.coast_join.specs.Chains.{way_path_of}
use Rattle.coast_join.specs.Input.{asides_of, way_paths_in}
use Rattle.coast_join.proofs.input.coast_input.Given as goal

abbrev pub invariant-loop-way : goal.invariant-loop-way
invariant-loop-way l = record {
  ways : map way_path_of l.ways ≡ flat_map (way_paths_in l.store) (take l.way-index l.way-items);
  aside : l.aside ≡ flat_map (asides_of l.store) (take l.way-index l.way-items);
}
