use Rattle.std.proofs.Common.{◌≡◌, take}
use Rattle.std.specs.List.{list_any}
use Rattle.osm_lattice.specs.declared.seg.Seg.{Seg}
use Rattle.coast_sides.specs.ChoiceSteps.{are_paired, knows}
use Rattle.coast_sides.proofs.foes.foes_of.Given as goal

abbrev pub invariant-loop-pair : goal.invariant-loop-pair
invariant-loop-pair l = (s t : Seg) → knows l.foes s t ≡ list_any (are_paired s t) (take l.pair-index l.pairs)
