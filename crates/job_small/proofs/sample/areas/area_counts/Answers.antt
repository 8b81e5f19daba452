-- One more candidate is counted with those before it.
use Rattle.job_small.proofs.Sampling.Counting.{candidates_next}
use Rattle.job_small.proofs.sample.areas.area_counts.Goals as goal

pub loop-candidate-preserved : goal.loop-candidate-preserved
loop-candidate-preserved c =
    candidates_next c.args.store.now c.args.candidates.now c.loop-candidate.candidate-index _ c.loop-candidate-test.true c.loop-candidate.counts c.in_ok-counts.counts
    c.loop-candidate.invariant c.in_ok-counts.ensures
