use Rattle.osm_notation.proofs.StringLemmas.{HexTo}
use Rattle.osm_notation.proofs.strings.put_hexadecimal.Given as goal

abbrev pub invariant-loop-left : goal.invariant-loop-left
invariant-loop-left l = HexTo l.number l.left l.at l.digits

abbrev pub decreases-loop-left : goal.decreases-loop-left
decreases-loop-left l = l.left
