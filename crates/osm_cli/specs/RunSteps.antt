-- Words of private clauses on a run. No public contract cites them.
use Rattle.std.specs.Prelude.{◌≡◌, ◌≤◌, Bool, true, false, List, Result}
use Rattle.osm_host.specs.Outside.{Outside, appended, risen, OnlyWritesOut}
use Rattle.osm_words.specs.declared.fault.WordsFault.{WordsFault}
use Rattle.osm_words.specs.declared.fault.WordsError.{WordsError}
use Rattle.osm_words.specs.declared.fault.WordsError.TheVariants as words
use Rattle.osm_words.specs.Job.{Job, certify, coastline, export, filter, locate, sample}
use Rattle.osm_input.specs.Keeps.{KeepsNames}
use Rattle.osm_job.specs.declared.ended.Ended.{Ended}
use Rattle.osm_job.specs.declared.ended.Ended.TheVariants as ended
use Rattle.osm_job.specs.Cause.{Cause, by_itself, by_words, by_input, by_verdict, by_open, by_read, by_write, by_memory, cause_of}
use Rattle.osm_job.specs.Faults.{CountsFaults, writes_failed}
use Rattle.osm_job.specs.Sent.{Sent, output_of, report_of}
use Rattle.osm_cli.specs.Run.{IsRun, Opens, JudgesWords, JudgesInput, Spares}

-- how a run ends if only this is known of its words
abbrev pub words_ended : WordsError → Ended
words_ended (words.BadWords cause) = ended.BadWords cause
words_ended words.OutOfMemory = ended.OutOfMemory

-- A run without its last line.
pub record Works (words : Result Job WordsFault) (ended : Ended) (before after : Outside) : Type 0 where
  pub written : List Sent
  pub out : after.out ≡ appended before.out (output_of written)
  pub report : after.report ≡ appended before.report (report_of written)
  pub right : IsRun words before ended written
  pub judged : JudgesWords words ended
  pub judged_input : JudgesInput words ended before after
  pub opens : Opens words (cause_of ended) before after
  pub spares : Spares words ended before after
  pub faults : CountsFaults ended before after
  pub write_faults : after.write_faults ≡ writes_failed (cause_of ended) before.write_faults
  pub keeps : KeepsNames before after

-- the job opens an output
abbrev pub has_output : Job → Bool
has_output (export settings) = true
has_output (coastline settings) = true
has_output (sample count) = true
has_output (filter settings) = true
has_output (certify settings) = false
has_output (locate settings) = true

-- a run came to its end
abbrev pub is_by_itself : Cause → Bool
is_by_itself by_itself = true
is_by_itself by_words = false
is_by_itself by_input = false
is_by_itself by_verdict = false
is_by_itself by_open = false
is_by_itself by_read = false
is_by_itself by_write = false
is_by_itself by_memory = false

-- Only the count of failed writes changed, and it didn't fall.
pub record OnlyCounts (before after : Outside) : Type 0 where
  pub out : after.out ≡ before.out
  pub never_falls : before.write_faults ≤ after.write_faults
  pub rest : OnlyWritesOut before after

-- The host kept the output of a job with this ending, or failed to. Either the ending stays and nothing changed.
-- Or the job came to its end, one more write failed, and the run ends with WriteFault.
pub data KeepsOutput (first last : Ended) (before after : Outside) : Type 0 where
  kept : last ≡ first → after ≡ before → KeepsOutput first last before after
  lost : cause_of first ≡ by_itself → last ≡ ended.WriteFault → OnlyCounts before after →
      after.write_faults ≡ risen before.write_faults → KeepsOutput first last before after
