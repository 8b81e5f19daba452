-- What a run does with its words and its host.
use Rattle.std.specs.Prelude.{◌≡◌, ◌⊎◌, ◌<◌, ℕ, true, List, [], ◌++◌, length, IfSome, Result, Ok, Err}
use Rattle.osm_host.specs.Outside.{Outside, appended, risen}
use Rattle.osm_words.specs.Job.{Job}
use Rattle.osm_words.specs.declared.fault.WordsFault.{WordsFault}
use Rattle.osm_input.specs.Keeps.{KeepsNames}
use Rattle.osm_job.specs.declared.ended.Ended.{Ended}
use Rattle.osm_job.specs.declared.ended.Ended.TheVariants.{BadWords, OutOfMemory}
use Rattle.osm_job.specs.Cause.{Cause, by_words, cause_of}
use Rattle.osm_job.specs.Faults.{CountsFaults, NoFault, writes_failed}
use Rattle.osm_job.specs.Opens.{OpensBy}
use Rattle.osm_job.specs.Prefix.{IsPrefix}
use Rattle.osm_job.specs.Sent.{Sent, output_of, report_of}
use Rattle.osm_job.specs.Spared.{SparesOutput}
use Rattle.osm_job.specs.Taken.{IsStopped, TookBy, TookNothing, read_error}
use Rattle.osm_job.specs.Texts.{told_texts}
use Rattle.osm_job.specs.Whole.{Whole}
use Rattle.osm_job.specs.Worked.{IsReady}
use Rattle.osm_job.specs.Written.{IsWrittenBy}
use Rattle.osm_cli.specs.Job.{TookAll, inputs_of, makes_first, outputs_of}
use Rattle.osm_cli.specs.LastLine.{last_line}
use Rattle.osm_cli.specs.Whole.{IsWhole}

-- ---- what was written

-- Words are refused with this fault, unless memory ran out.
abbrev pub IsRefused : WordsFault → Ended → Type 0
IsRefused fault ended = (ended ≡ OutOfMemory) ⊎ (ended ≡ BadWords fault)

-- The words are taken, and what was written is right for their job; or they are refused and nothing was written.
abbrev pub IsRun : Result Job WordsFault → Outside → Ended → List Sent → Type 0
IsRun (Ok job) before ended written =
    IsWrittenBy (IsWhole job) (cause_of ended) (told_texts before.named (inputs_of job)) ended written
IsRun (Err fault) before ended written = IsRefused fault ended × (written ≡ [])

-- How much of the last line is there, with the counts of failed writes before the run and after it.
pub data IsLastLine (ended : Ended) (last : List ℕ) (before after : ℕ) : Type 0 where
  -- All of it, and no write failed but the one that ended the run, if any.
  stands : last ≡ last_line ended → after ≡ writes_failed (cause_of ended) before → IsLastLine ended last before after
  -- A prefix of it, and its own write failed, exactly one after what ended the run. If there is no last line, none fails.
  is_cut : IsPrefix last (last_line ended) → 0 < length (last_line ended) →
      after ≡ risen (writes_failed (cause_of ended) before) → IsLastLine ended last before after

-- What a run wrote, in order, followed by its last line.
pub record Writes (words : Result Job WordsFault) (ended : Ended) (before after : Outside) : Type 0 where
  pub written : List Sent
  pub last : List ℕ
  pub out : after.out ≡ appended before.out (output_of written)
  pub report : after.report ≡ appended before.report (report_of written ++ last)
  pub right : IsRun words before ended written
  pub line : IsLastLine ended last before.write_faults after.write_faults

-- ---- what was read

-- An input is refused only for what was taken from it.
-- Its bad place is in the lines that count there, or they have none and it passes the limit. If a read failed, they have
-- none either. A job without inputs takes nothing, and nothing is taken if the words are refused.
abbrev pub JudgesInput : Result Job WordsFault → Ended → Outside → Outside → Type 0
JudgesInput (Ok job) ended before after =
    IfSome (read_error ended) (λ error. IsStopped (inputs_of job) error before after) × TookBy (TookAll job) (cause_of ended) before after
    × (inputs_of job ≡ [] → TookNothing before after)
JudgesInput (Err fault) ended before after = TookNothing before after

-- ---- what was opened

-- The opens are those of the job, as far as the run got. Its output is opened only if what is right for the job goes out.
abbrev pub Opens : Result Job WordsFault → Cause → Outside → Outside → Type 0
Opens (Ok job) cause before after =
    OpensBy (inputs_of job) (outputs_of job) (IsReady (inputs_of job) (IsWhole job) (TookAll job)) cause before after
Opens (Err fault) cause before after = after.opens ≡ before.opens

-- If memory ran out in a job that makes all its output first, no output was opened and nothing was written to one.
abbrev pub Spares : Result Job WordsFault → Ended → Outside → Outside → Type 0
Spares (Ok job) ended before after = makes_first job ≡ true → SparesOutput (inputs_of job) ended before after
Spares (Err fault) ended before after = Unit {0}

-- ---- the cause of its ending

-- Words are refused exactly if they are faulty, and then with their fault, unless memory ran out.
abbrev pub JudgesWords : Result Job WordsFault → Ended → Type 0
JudgesWords (Ok job) ended = cause_of ended ≡ by_words → ⊥
JudgesWords (Err fault) ended = IsRefused fault ended

-- The run ends as is right for its words and its inputs, or memory ran out.
abbrev pub Completes : Result Job WordsFault → Outside → Ended → Type 0
Completes (Ok job) before ended =
    (ended ≡ OutOfMemory)
    ⊎ IfSome (told_texts before.named (inputs_of job)) (λ texts. (whole : Whole)
    × IsWhole job texts whole × (ended ≡ whole.ended))
Completes (Err fault) before ended = IsRefused fault ended

-- ---- the whole run

-- What holds for a run with this ending. Each clause holds by itself, without the premises of the others.
pub record Ran (words : Result Job WordsFault) (ended : Ended) (before after : Outside) : Type 0 where
  -- What is written is right for the words and the inputs that they name, in order, as far as the run got.
  -- WriteFault comes only with a write that failed; otherwise only the write of the last line may fail.
  pub writes : Writes words ended before after
  -- Words are refused exactly if they ask for nothing that a run does.
  pub judges : JudgesWords words ended
  -- An input is refused only for what was taken from it, and only a whole one leads to output.
  pub reads : JudgesInput words ended before after
  -- Only names that the words give are opened.
  -- No output is opened before the inputs are read, nor if their contents allow none.
  pub opens : Opens words (cause_of ended) before after
  -- A job that makes all its output before it opens one touches none if memory ran out.
  pub spares : Spares words ended before after
  -- OpenFault comes with one open that failed, ReadFault with one read, the last; the others with none.
  pub faults : CountsFaults ended before after
  -- Without a fault of the host the run ends as is right for the inputs.
  pub complete : NoFault before after → Completes words before ended
  -- What no run changes stays unchanged.
  pub keeps : KeepsNames before after
