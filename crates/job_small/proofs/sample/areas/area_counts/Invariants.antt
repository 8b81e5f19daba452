use Rattle.std.proofs.Common.{take}
use Rattle.job_small.specs.Sampling.Steps.{AreAreaCounts}
use Rattle.job_small.proofs.sample.areas.area_counts.Given as goal

abbrev pub invariant-loop-candidate : goal.invariant-loop-candidate
invariant-loop-candidate l = AreAreaCounts l.store (take l.candidate-index l.candidates) l.counts
