use Rattle.std.proofs.Common.{◌≡◌, ◌+◌, None, length}
use Rattle.osm_elements.specs.Held.{refs_behind}
use Rattle.osm_elements.proofs.refs.Refs.len.Given as goal

abbrev pub invariant-loop-rest : goal.invariant-loop-rest
invariant-loop-rest l = l.len + length (refs_behind None l.rest) ≡ length l.self

abbrev pub decreases-loop-rest : goal.decreases-loop-rest
decreases-loop-rest l = length l.rest
