use Rattle.std.proofs.Common.{◌≡◌, ◌+◌, map}
use Rattle.osm_sample.specs.Numbers.{numbers}
use Rattle.osm_sample.specs.Objects.{ref_to}
use Rattle.osm_sample.proofs.ways.closed_refs.Given as goal

abbrev pub invariant-loop-i : goal.invariant-loop-i
invariant-loop-i l = l.refs ≡ map (λ i. ref_to (l.first + i)) (numbers l.i)
