use Rattle.std.proofs.Common.{◌≡◌, filter, not, take}
use Rattle.std.specs.BTreeSet.{contains}
use Rattle.std.specs.Ordering.{int_cmp}
use Rattle.coast_rings.specs.declared.ring.CoastRing.{CoastRing}
use Rattle.coast_sides.proofs.choosing.parted_by_name.Given as goal

abbrev pub invariant-loop-ring : goal.invariant-loop-ring
invariant-loop-ring l =
    (l.named ≡ filter (λ (ring : CoastRing). contains int_cmp l.names ring.name) (take l.ring-index l.rings))
    × (l.others ≡ filter (λ (ring : CoastRing). not (contains int_cmp l.names ring.name)) (take l.ring-index l.rings))
