-- What is right for words and the texts of their inputs, and the runs that keep to it.
use Rattle.std.specs.Prelude.{Bool, Err, List, Ok, Result, Some, false, true, ◌≡◌}
use Rattle.osm_host.specs.Outside.{Outside}
use Rattle.osm_words.specs.Job.{Job}
use Rattle.osm_words.specs.declared.fault.WordsFault.{WordsFault}
use Rattle.osm_job.specs.Cause.{Cause, by_input, by_itself, by_memory, by_open, by_verdict, by_read, by_words, by_write, cause_of}
use Rattle.osm_job.specs.Texts.{Texts, told_texts}
use Rattle.osm_cli.specs.Job.{inputs_of}
use Rattle.osm_job.specs.Prefix.{IsPrefix}
use Rattle.osm_cli.specs.Run.{Writes}
use Rattle.osm_job.specs.Sent.{Sent}
use Rattle.osm_job.specs.Whole.{Whole, silent}
use Rattle.osm_cli.specs.Whole.{IsWhole}
use Rattle.osm_job.specs.declared.ended.Ended.{Ended}
use Rattle.osm_job.specs.declared.ended.Ended.TheVariants.{BadWords}

-- a text for each input of the job that the words ask for; nothing if the words are refused
abbrev pub TextsOf : Result Job WordsFault → Type 0
TextsOf (Ok job) = Texts (inputs_of job)
TextsOf (Err fault) = Unit {0}

-- outside, the names of the inputs have these texts as their contents
abbrev pub AreTold : Outside → (words : Result Job WordsFault) → TextsOf words → Type 0
AreTold before (Ok job) texts = told_texts before.named (inputs_of job) ≡ Some texts
AreTold before (Err fault) texts = Unit {0}

-- what is right for the job over its texts; if the words are refused, that nothing is written
abbrev pub IsRightForWords : (words : Result Job WordsFault) → TextsOf words → Whole → Type 0
IsRightForWords (Ok job) texts whole = IsWhole job texts whole
IsRightForWords (Err fault) texts whole = whole ≡ silent (BadWords fault)

-- neither the host nor memory ended the run
abbrev pub is_unbroken : Cause → Bool
is_unbroken by_itself = true
is_unbroken by_words = true
is_unbroken by_input = true
is_unbroken by_verdict = true
is_unbroken by_open = false
is_unbroken by_read = false
is_unbroken by_write = false
is_unbroken by_memory = false

-- A prefix of the whole was written. Unless the host or memory failed, all of it was, and the run ended as is right.
-- Only the last line of the report comes after it, and the ending determines that line.
pub record KeepsTo (whole : Whole) (ended : Ended) (written : List Sent) : Type 0 where
  pub front : IsPrefix written whole.written
  pub all : is_unbroken (cause_of ended) ≡ true → (written ≡ whole.written) × (ended ≡ whole.ended)

-- every run with these words over these texts, on any host that reveals them, keeps to the whole
abbrev pub AllRunsKeepTo : (words : Result Job WordsFault) → TextsOf words → Whole → Type 0
AllRunsKeepTo words texts whole =
    (ended : Ended) (before after : Outside) (run : Writes words ended before after) →
    AreTold before words texts → KeepsTo whole ended run.written
