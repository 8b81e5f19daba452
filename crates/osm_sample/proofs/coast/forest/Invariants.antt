use Rattle.std.proofs.Common.{◌≡◌, ◌+◌, [], map}
use Rattle.osm_sample.specs.Numbers.{numbers}
use Rattle.osm_sample.specs.Objects.{way_member}
use Rattle.osm_sample.proofs.coast.forest.Given as goal

abbrev pub invariant-loop-i : goal.invariant-loop-i
invariant-loop-i l = l.members ≡ map (λ i. way_member (i + 1) []) (numbers l.i)
