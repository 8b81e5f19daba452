-- What calls that write leave.
use Rattle.std.specs.Prelude.{◌≡◌, ◌≤◌, List, Result, Ok, Err}
use Rattle.osm_host.specs.Outside.{Outside, appended, Counts}
use Rattle.osm_job.specs.Prefix.{IsPrefix}
use Rattle.osm_job.specs.Sent.{Sent, output_of, report_of}

-- Only the output, the report and the count of writes changed.
pub record OnlyWrites (before now : Outside) : Type 0 where
  pub named : now.named ≡ before.named
  pub left : now.left ≡ before.left
  pub opens : now.opens ≡ before.opens
  pub open_faults : now.open_faults ≡ before.open_faults
  pub read_faults : now.read_faults ≡ before.read_faults
  pub bytes_read : now.bytes_read ≡ before.bytes_read

-- This was written.
pub record Added (written : List Sent) (before after : Outside) : Type 0 where
  pub out : after.out ≡ appended before.out (output_of written)
  pub report : after.report ≡ appended before.report (report_of written)
  pub never_falls : before.write_faults ≤ after.write_faults
  pub rest : OnlyWrites before after

-- what was written is all of this, or a prefix of it
abbrev pub IsSent : {T E : Type 0} → List Sent → List Sent → Result T E → Type 0
IsSent all written (Ok done) = written ≡ all
IsSent all written (Err failed) = IsPrefix written all

-- All of this was written, or a prefix of it if a write failed.
pub record Wrote {T E : Type 0} (all : List Sent) (before after : Outside) (result : Result T E) : Type 0 where
  pub written : List Sent
  pub sent : IsSent all written result
  pub added : Added written before after
  pub counts : Counts before.write_faults after.write_faults result
