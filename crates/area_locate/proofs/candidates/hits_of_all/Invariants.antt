-- The points have the hits of the candidates so far.
use Rattle.std.proofs.Common.{take}
use Rattle.area_locate.specs.Areas.{HaveHits}
use Rattle.area_locate.specs.Index.{IsIndex}
use Rattle.area_locate.proofs.candidates.hits_of_all.Given as goal

abbrev pub invariant-loop-candidate : goal.invariant-loop-candidate
invariant-loop-candidate l = HaveHits l.store (take l.candidate-index l.candidates) l.points l.hits.items × IsIndex l.points l.index
