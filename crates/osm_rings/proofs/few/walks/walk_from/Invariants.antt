-- The walk has come to a fresh place.
use Rattle.std.proofs.Common.{length, take, ◌≡◌}
use Rattle.osm_rings.proofs.WalkSteps.{IsWalkingTo}
use Rattle.osm_rings.proofs.few.walks.walk_from.Given as goal

abbrev pub invariant-loop-end : goal.invariant-loop-end
invariant-loop-end l = (length l.places ≡ 32) × (length l.passed ≡ 32) × IsWalkingTo l.edges (take l.done l.fn.places) l.start l.end l.place l.places l.passed
