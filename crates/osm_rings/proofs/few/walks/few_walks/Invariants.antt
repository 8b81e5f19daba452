-- Closed walks have passed so many places.
use Rattle.std.proofs.Common.{length, ◌-◌, ◌≡◌}
use Rattle.osm_rings.proofs.WalkSteps.{AreWalkedTo}
use Rattle.osm_rings.proofs.few.walks.few_walks.Given as goal

abbrev pub invariant-loop-done : goal.invariant-loop-done
invariant-loop-done l = (length l.places ≡ 32) × (length l.sizes ≡ 32) × AreWalkedTo l.edges l.done l.count l.places l.sizes l.passed

abbrev pub decreases-loop-done : goal.decreases-loop-done
decreases-loop-done l = length l.edges - l.done
