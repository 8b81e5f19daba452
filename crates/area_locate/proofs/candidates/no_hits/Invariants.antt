-- No hits for the points so far.
use Rattle.std.proofs.Common.{[], map, take, ◌≡◌}
use Rattle.area_locate.proofs.candidates.no_hits.Given as goal

abbrev pub invariant-loop : goal.invariant-loop
invariant-loop l = l.hits.items ≡ map (λ _. []) (take l.index l.points)
