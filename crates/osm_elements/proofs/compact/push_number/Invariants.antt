use Rattle.std.proofs.Common.{◌≡◌, ◌++◌, length, take}
use Rattle.osm_elements.specs.Compact.{number_bytes}
use Rattle.osm_elements.proofs.compact.push_number.Given as goal

-- what is there and the digits that are left make up all of them
abbrev pub invariant-loop-left : goal.invariant-loop-left
invariant-loop-left l = (l.bytes ++ number_bytes l.left ≡ l.fn.bytes ++ number_bytes l.number) × (take (length l.fn.bytes) l.bytes ≡ l.fn.bytes)

abbrev pub decreases-loop-left : goal.decreases-loop-left
decreases-loop-left l = l.left
