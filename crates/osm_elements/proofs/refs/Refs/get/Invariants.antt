use Rattle.std.proofs.Common.{◌≡◌}
use Rattle.std.specs.Prelude.{slice_get}
use Rattle.osm_elements.proofs.refs.Refs.get.Given as goal

abbrev pub invariant-loop-before : goal.invariant-loop-before
invariant-loop-before l = slice_get l.rest l.before ≡ slice_get l.self l.index

abbrev pub decreases-loop-before : goal.decreases-loop-before
decreases-loop-before l = l.before
