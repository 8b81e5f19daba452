use Rattle.std.proofs.Common.{◌≡◌, length}
use Rattle.std.specs.List.{find}
use Rattle.std.specs.Ordering.{int_eq}
use Rattle.osm_objects.specs.declared.plain.PlainNode.{PlainNode}
use Rattle.osm_objects.specs.Plain.{HaveRisingIds}
use Rattle.osm_objects.proofs.plain.by_halves.Given as goal

-- what is found among all is found in the rest
abbrev pub invariant-loop-rest : goal.invariant-loop-rest
invariant-loop-rest l = HaveRisingIds l.rest × (find (λ (n : PlainNode). int_eq l.of.id n.id) l.rest ≡ find (λ (n : PlainNode). int_eq l.of.id n.id) l.nodes)

abbrev pub decreases-loop-rest : goal.decreases-loop-rest
decreases-loop-rest l = length l.rest
