use Rattle.std.proofs.Common.{◌≡◌, length}
use Rattle.osm_area.specs.Names.{differ}
use Rattle.osm_area.proofs.names.differ.Given as goal

-- those that were passed stand nowhere behind themselves
abbrev pub invariant-loop-rest : goal.invariant-loop-rest
invariant-loop-rest l = differ l.rest ≡ differ l.names

abbrev pub decreases-loop-rest : goal.decreases-loop-rest
decreases-loop-rest l = length l.rest
