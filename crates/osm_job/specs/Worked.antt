-- What a job did with its host.
use Rattle.std.specs.Prelude.{◌≡◌, ℕ, List, [], ◌∷◌, IfSome}
use Rattle.osm_elements.specs.declared.object.Object.{Object}
use Rattle.osm_host.specs.Outside.{Outside, Opened, appended}
use Rattle.osm_input.specs.Keeps.{KeepsNames}
use Rattle.osm_job.specs.declared.ended.Ended.{Ended}
use Rattle.osm_job.specs.Cause.{Cause, by_itself, by_words, by_input, by_verdict, by_open, by_read, by_write, by_memory, cause_of}
use Rattle.osm_job.specs.Faults.{CountsFaults, writes_failed}
use Rattle.osm_job.specs.Opens.{OpensBy}
use Rattle.osm_job.specs.Prefix.{IsPrefix}
use Rattle.osm_job.specs.Sent.{Sent, output_of, report_of}
use Rattle.osm_job.specs.Taken.{IsStopped, TookBoth, TookBy, TookInput, TookNothing, read_error}
use Rattle.osm_job.specs.Texts.{Texts, told_texts}
use Rattle.osm_job.specs.Whole.{IsReadThen, IsTextThen, Whole}
use Rattle.osm_job.specs.Writes.{Added}
use Rattle.osm_job.specs.Written.{GoesOut, IsWrittenBy}

-- An output may be asked for: the inputs of these names were taken, and what is right for them goes out.
abbrev pub IsReady : (inputs : List (List ℕ)) → (Texts inputs → Whole → Type 0) → (Outside → Outside → Type 0) → Outside → Outside → Type 0
IsReady inputs IsRight TookAll before after = TookAll before after × GoesOut IsRight (told_texts before.named inputs)

-- A job with these inputs and outputs ended like this, without its last line.
-- `IsRight` is what is right over the texts of its inputs, and `TookAll` says that it has taken all of them. One without
-- inputs takes nothing, however it ends.
pub record Worked (inputs : List (List ℕ)) (outputs : List Opened) (IsRight : Texts inputs → Whole → Type 0) (TookAll : Outside → Outside → Type 0)
    (ended : Ended) (before after : Outside) : Type 0 where
  pub written : List Sent
  pub out : after.out ≡ appended before.out (output_of written)
  pub report : after.report ≡ appended before.report (report_of written)
  pub right : IsWrittenBy IsRight (cause_of ended) (told_texts before.named inputs) ended written
  pub refused : IfSome (read_error ended) (λ error. IsStopped inputs error before after)
  pub took : TookBy TookAll (cause_of ended) before after
  pub untouched : inputs ≡ [] → TookNothing before after
  pub opens : OpensBy inputs outputs (IsReady inputs IsRight TookAll) (cause_of ended) before after
  pub faults : CountsFaults ended before after
  pub write_faults : after.write_faults ≡ writes_failed (cause_of ended) before.write_faults
  pub keeps : KeepsNames before after

-- ---- one input, then one output

-- what is right over the text of the one input
abbrev pub OverOne : (List Object → Whole → Type 0) → (name : List ℕ) → Texts (name ∷ []) → Whole → Type 0
OverOne IsRight name texts whole = IsReadThen IsRight texts.0 whole

-- A job ended like this that reads one input and then opens one output.
-- `IsRight` is what is right for it over the objects of the input.
abbrev pub ReadThenWrote : List ℕ → Opened → (List Object → Whole → Type 0) → Ended → Outside → Outside → Type 0
ReadThenWrote name opened IsRight ended before after =
    Worked (name ∷ []) (opened ∷ []) (OverOne IsRight name) (TookInput name) ended before after

-- ---- an input and a text, then any outputs

-- what is right over the objects of the input and over the text
abbrev pub OverBoth : (List Object → List ℕ → Whole → Type 0) → (file text : List ℕ) → Texts (file ∷ text ∷ []) → Whole → Type 0
OverBoth IsRight file text texts whole = IsReadThen (λ objects right. IsTextThen (IsRight objects) texts.1.0 right) texts.0 whole

-- A job ended like this that reads an input and then a text.
-- `IsRight` is what is right for it over its objects and the text.
abbrev pub ReadBoth : List ℕ → List ℕ → List Opened → (List Object → List ℕ → Whole → Type 0) → Ended → Outside → Outside → Type 0
ReadBoth file text outputs IsRight ended before after =
    Worked (file ∷ text ∷ []) outputs (OverBoth IsRight file text) (TookBoth file text) ended before after

-- ---- an output alone

-- A job ended like this that reads nothing and opens one output. `IsRight` is what is right for it.
abbrev pub WroteAlone : Opened → (Whole → Type 0) → Ended → Outside → Outside → Type 0
WroteAlone opened IsRight ended before after = Worked [] (opened ∷ []) (λ texts whole. IsRight whole) TookNothing ended before after

-- ---- once the output is open

-- a prefix of what is right
abbrev pub IsBegun : (Whole → Type 0) → List Sent → Type 0
IsBegun IsRight written = (whole : Whole) × IsRight whole × (cause_of whole.ended ≡ by_itself) × IsPrefix written whole.written

-- What was written is right, by what ended the job. Everything was opened and read before.
abbrev pub IsWrittenOver : (Whole → Type 0) → Cause → Ended → List Sent → Type 0
IsWrittenOver IsRight by_itself ended written = IsRight (record { written = written; ended = ended })
IsWrittenOver IsRight by_words ended written = ⊥
IsWrittenOver IsRight by_input ended written = ⊥
IsWrittenOver IsRight by_verdict ended written = ⊥
IsWrittenOver IsRight by_open ended written = ⊥
IsWrittenOver IsRight by_read ended written = ⊥
IsWrittenOver IsRight by_write ended written = IsBegun IsRight written
IsWrittenOver IsRight by_memory ended written = IsBegun IsRight written

-- A job whose output is open ended like this.
pub record WroteOver (IsRight : Whole → Type 0) (ended : Ended) (before after : Outside) : Type 0 where
  pub written : List Sent
  pub right : IsWrittenOver IsRight (cause_of ended) ended written
  pub added : Added written before after
  pub counts : after.write_faults ≡ writes_failed (cause_of ended) before.write_faults
