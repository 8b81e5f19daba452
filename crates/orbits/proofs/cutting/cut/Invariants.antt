-- What cutting keeps from item to item.
use Rattle.std.proofs.Common.{map}
use Rattle.orbits.proofs.CutSteps.{IsStack}
use Rattle.orbits.proofs.cutting.cut.Given as goal

abbrev pub invariant-loop-item : goal.invariant-loop-item
invariant-loop-item l = IsStack l.keys l.walk l.depths l.item-index (map (λ p. p.items) l.pieces.items) l.stack.items
