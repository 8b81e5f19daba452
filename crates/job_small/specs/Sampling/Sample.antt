-- What a sample job must write in all, and how it must end.
use Rattle.std.specs.Prelude.{◌≡◌, ◌++◌, ℕ, false, codes, map}
use Rattle.osm_host.specs.Outside.{Outside, output}
use Rattle.osm_job.specs.declared.ended.Ended.{Ended}
use Rattle.osm_job.specs.declared.ended.Ended.TheVariants as ended
use Rattle.osm_job.specs.Sent.{to_output}
use Rattle.osm_job.specs.Whole.{Whole}
use Rattle.osm_job.specs.Worked.{WroteAlone}
use Rattle.osm_sample.specs.Input.{sample_objects}
use Rattle.job_small.specs.Sampling.Summary.{IsSummary}
use Rattle.job_small.specs.Sampling.SummaryLines.{area_line, coast_line}
use Rattle.job_small.specs.declared.sample.summary.Summary.{Summary}

-- The summary of the sample of `count` times `count` cells goes to the output, as two lines.
pub record IsSample (count : ℕ) (whole : Whole) : Type 0 where
  pub summary : Summary
  pub right : IsSummary (sample_objects count) summary
  pub written : whole.written ≡ map to_output (area_line summary ++ coast_line summary)
  pub ended : whole.ended ≡ ended.Done

-- A sample job ended like this: it reads nothing, opens `-` as its output, and writes what is right.
abbrev pub Samples : ℕ → Ended → Outside → Outside → Type 0
Samples count ended before after = WroteAlone (output (codes "-") false) (IsSample count) ended before after
