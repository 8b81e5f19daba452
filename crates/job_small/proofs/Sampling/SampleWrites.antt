-- The lines of the summary are written, or a prefix of them.
use Rattle.std.proofs.Common.{refl, subst, sym, ℕ, List, map, Result, Ok, Err, Vec}
use Rattle.std.specs.declared.alloc.Global.{Global}
use Rattle.osm_host.specs.Outside.{Outside}
use Rattle.osm_host.specs.declared.host.Failed.{Failed}
use Rattle.osm_job.specs.declared.ended.Ended.TheVariants as ended
use Rattle.osm_job.specs.Sent.{Sent, lines_text, to_output}
use Rattle.osm_job.specs.Worked.{WroteOver}
use Rattle.osm_job.specs.Writes.{Wrote}
use Rattle.job_small.specs.Sampling.Sample.{IsSample}
use Rattle.job_small.specs.Sampling.WorkSteps.{ended_by, whole_of_lines}

module _ (count : ℕ) (lines : List (Vec ℕ Global)) (right : IsSample count (whole_of_lines lines)) (before now : Outside) where
  pub wrote_over : (r : Result (Unit {0}) Failed) → Wrote (map to_output (lines_text lines)) before now r → WroteOver (IsSample count) (ended_by r) before now
  wrote_over (Ok done) w = record {
    written = w.written;
    right = subst (λ (xs : List Sent). IsSample count (record { written = xs; ended = ended.Done })) (sym w.sent) right;
    added = w.added;
    counts = w.counts.answered;
  }
  wrote_over (Err failed) w = record { written = w.written; right = (whole_of_lines lines, right, refl, w.sent); added = w.added; counts = w.counts.failed }
