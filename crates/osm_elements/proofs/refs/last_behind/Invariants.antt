use Rattle.std.proofs.Common.{◌≡◌, Some, length}
use Rattle.osm_elements.specs.Held.{refs_behind, last_behind}
use Rattle.osm_elements.proofs.HeldLemmas.{last_at}
use Rattle.osm_elements.proofs.refs.last_behind.Given as goal

-- where what was last in front is, and the last of what is left
abbrev pub invariant-loop-last : goal.invariant-loop-last
invariant-loop-last l = last_behind (Some (last_at l.first l.last)) (refs_behind (Some l.first) l.rest) ≡ last_behind (Some l.first) (refs_behind (Some l.first) l.bytes)

abbrev pub decreases-loop-last : goal.decreases-loop-last
decreases-loop-last l = length l.rest
