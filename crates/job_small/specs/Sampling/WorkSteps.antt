-- Words of private clauses on the work of a sample job. No public contract cites them.
use Rattle.std.specs.Prelude.{◌≡◌, ◌++◌, ℕ, List, Result, Ok, Err, Vec, map}
use Rattle.std.specs.declared.alloc.Global.{Global}
use Rattle.osm_host.specs.declared.host.Failed.{Failed}
use Rattle.osm_job.specs.declared.ended.Ended.{Ended}
use Rattle.osm_job.specs.declared.ended.Ended.TheVariants as ended
use Rattle.osm_job.specs.Sent.{lines_text, to_output}
use Rattle.osm_job.specs.Whole.{Whole}
use Rattle.job_small.specs.Sampling.Sample.{IsSample}

-- what must be written for these lines
abbrev pub whole_of_lines : List (Vec ℕ Global) → Whole
whole_of_lines lines = record { written = map to_output (lines_text lines); ended = ended.Done }

-- how a run ends once its output was opened
abbrev pub ended_by : Result (Unit {0}) Failed → Ended
ended_by (Ok done) = ended.Done
ended_by (Err failed) = ended.WriteFault
