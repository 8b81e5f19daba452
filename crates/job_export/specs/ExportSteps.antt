-- Words of private clauses on the work of an export. No public contract cites them.
use Rattle.std.specs.Prelude.{◌≡◌, ℕ, true, false, List, [], ◌∷◌, ◌++◌, map, All, Result, Ok, Err}
use Rattle.osm_elements.specs.declared.object.Object.{Object}
use Rattle.osm_elements.specs.declared.object.ObjectRef.{ObjectRef}
use Rattle.osm_host.specs.Outside.{Outside, risen}
use Rattle.osm_words.specs.Job.{ExportSettings}
use Rattle.osm_job.specs.declared.ended.Ended.{Ended}
use Rattle.osm_job.specs.declared.ended.Ended.TheVariants as ended
use Rattle.osm_job.specs.Prefix.{IsPrefix}
use Rattle.osm_job.specs.Sent.{Sent, to_output}
use Rattle.osm_job.specs.Worked.{IsBegun}
use Rattle.osm_job.specs.Writes.{Added}
use Rattle.job_export.specs.declared.work.Halt.{Halt}
use Rattle.job_export.specs.declared.work.Halt.TheVariants.{Stopped, WriteFault, OutOfMemory}
use Rattle.job_export.specs.Entry.{Entry, IsEntry, features_in, has_area, entry_sent, entries_sent}
use Rattle.job_export.specs.Export.{HaveAreas, IsExport}

-- Exactly one write failed if that is the answer, and otherwise none.
abbrev pub HaltCause : {T : Type 0} → Outside → Outside → Result T Halt → Type 0
HaltCause before after (Ok done) = after.write_faults ≡ before.write_faults
HaltCause before after (Err (Stopped candidate)) = after.write_faults ≡ before.write_faults
HaltCause before after (Err WriteFault) = after.write_faults ≡ risen before.write_faults
HaltCause before after (Err OutOfMemory) = after.write_faults ≡ before.write_faults

-- ---- the last features

-- all that waited was written, or a prefix if a write failed
abbrev pub IsSentLast : List Sent → List Sent → Halt → Type 0
IsSentLast waited written (Stopped candidate) = ⊥
IsSentLast waited written WriteFault = IsPrefix written waited
IsSentLast waited written OutOfMemory = written ≡ waited

-- What waited was written before the run ended for lack of memory.
pub record WroteLast (waited : List ℕ) (before after : Outside) (halt : Halt) : Type 0 where
  pub written : List Sent
  pub sent : IsSentLast (map to_output waited) written halt
  pub added : Added written before after
  pub cause : HaltCause {T = Unit {0}} before after (Err halt)

-- ---- one candidate

-- an entry of this candidate
pub record IsEntryOf (settings : ExportSettings) (objects : List Object) (candidate : ObjectRef) (entry : Entry) : Type 0 where
  pub of_candidate : entry.candidate ≡ candidate
  pub right : IsEntry settings.show_errors objects entry

-- What was written, followed by what waits, is what waited before, followed by what a candidate adds after `earlier`
-- features. The answer is the number of its features. If the run stops there, nothing waits. If memory runs out, all that
-- waited was written.
abbrev pub IsAddedBy : ExportSettings → List Object → ℕ → ObjectRef → List ℕ → List ℕ → List Sent → Result ℕ Halt → Type 0
IsAddedBy settings objects earlier candidate waited waiting written (Ok count) =
    (entry : Entry) × IsEntryOf settings objects candidate entry × (settings.stop_on_error ≡ true → has_area entry ≡ true) × (count ≡ features_in entry.outcome)
    × (written ++ map to_output waiting ≡ map to_output waited ++ entry_sent settings objects earlier entry)
IsAddedBy settings objects earlier candidate waited waiting written (Err (Stopped stopped)) =
    (entry : Entry) × IsEntryOf settings objects candidate entry × (settings.stop_on_error ≡ true) × (has_area entry ≡ false) × (stopped ≡ candidate)
    × (written ≡ map to_output waited ++ entry_sent settings objects earlier entry)
IsAddedBy settings objects earlier candidate waited waiting written (Err WriteFault) =
    (entry : Entry) × IsEntryOf settings objects candidate entry × IsPrefix written (map to_output waited ++ entry_sent settings objects earlier entry)
IsAddedBy settings objects earlier candidate waited waiting written (Err OutOfMemory) =
    (entry : Entry) × IsEntryOf settings objects candidate entry × (more : List Sent) × IsPrefix more (entry_sent settings objects earlier entry)
    × (written ≡ map to_output waited ++ more)

pub record WroteCandidate (settings : ExportSettings) (objects : List Object) (earlier : ℕ) (candidate : ObjectRef) (waited waiting : List ℕ) (before after : Outside) (result : Result ℕ Halt) : Type 0 where
  pub written : List Sent
  pub right : IsAddedBy settings objects earlier candidate waited waiting written result
  pub added : Added written before after
  pub cause : HaltCause before after result

-- ---- many candidates

-- Entries of these candidates, in order, all with areas if the run must stop at problems.
pub record AreEntriesOf (settings : ExportSettings) (objects : List Object) (candidates : List ObjectRef) (entries : List Entry) : Type 0 where
  pub in_order : map (λ entry. entry.candidate) entries ≡ candidates
  pub right : All (IsEntry settings.show_errors objects) entries
  pub go_on : settings.stop_on_error ≡ true → HaveAreas entries

-- The run stops at the last of these candidates' entries; those before it have areas.
pub record StopsAt (settings : ExportSettings) (objects : List Object) (candidates : List ObjectRef) (entries : List Entry) (last : Entry) : Type 0 where
  pub stops : settings.stop_on_error ≡ true
  pub later : List ObjectRef
  pub in_order : candidates ≡ map (λ entry. entry.candidate) entries ++ last.candidate ∷ later
  pub right : All (IsEntry settings.show_errors objects) entries
  pub last_right : IsEntry settings.show_errors objects last
  pub areas : HaveAreas entries
  pub problems : has_area last ≡ false

-- What was written is a prefix of what entries for the first of these candidates add.
pub data IsPrefixOf (settings : ExportSettings) (objects : List Object) (candidates : List ObjectRef) (written : List Sent) : Type 0 where
  going : (first later : List ObjectRef) (entries : List Entry) → candidates ≡ first ++ later → AreEntriesOf settings objects first entries →
      IsPrefix written (entries_sent settings objects 0 entries) → IsPrefixOf settings objects candidates written
  stopping : (entries : List Entry) (last : Entry) → StopsAt settings objects candidates entries last →
      IsPrefix written (entries_sent settings objects 0 (entries ++ last ∷ [])) → IsPrefixOf settings objects candidates written

-- What was written is what these candidates add, as far as the run got.
abbrev pub AreAddedBy : ExportSettings → List Object → List ObjectRef → List Sent → Result (Unit {0}) Halt → Type 0
AreAddedBy settings objects candidates written (Ok done) =
    (entries : List Entry) × AreEntriesOf settings objects candidates entries × (written ≡ entries_sent settings objects 0 entries)
AreAddedBy settings objects candidates written (Err (Stopped stopped)) =
    (entries : List Entry) × (last : Entry) × StopsAt settings objects candidates entries last × (stopped ≡ last.candidate)
    × (written ≡ entries_sent settings objects 0 (entries ++ last ∷ []))
AreAddedBy settings objects candidates written (Err WriteFault) = IsPrefixOf settings objects candidates written
AreAddedBy settings objects candidates written (Err OutOfMemory) = IsPrefixOf settings objects candidates written

pub record WroteCandidates (settings : ExportSettings) (objects : List Object) (candidates : List ObjectRef) (before after : Outside) (result : Result (Unit {0}) Halt) : Type 0 where
  pub written : List Sent
  pub right : AreAddedBy settings objects candidates written result
  pub added : Added written before after
  pub cause : HaltCause before after result

-- ---- the whole

abbrev pub ended_by_halt : Result (Unit {0}) Halt → Ended
ended_by_halt (Ok done) = ended.Done
ended_by_halt (Err (Stopped candidate)) = ended.Stopped candidate
ended_by_halt (Err WriteFault) = ended.WriteFault
ended_by_halt (Err OutOfMemory) = ended.OutOfMemory

-- what was written is all of a right whole with this ending
abbrev pub IsAll : ExportSettings → List Object → List Sent → Ended → Type 0
IsAll settings objects written ended = IsExport settings objects (record { written = written; ended = ended })

abbrev pub IsExported : ExportSettings → List Object → List Sent → Result (Unit {0}) Halt → Type 0
IsExported settings objects written (Ok done) = IsAll settings objects written ended.Done
IsExported settings objects written (Err (Stopped candidate)) = IsAll settings objects written (ended.Stopped candidate)
IsExported settings objects written (Err WriteFault) = IsBegun (IsExport settings objects) written
IsExported settings objects written (Err OutOfMemory) = IsBegun (IsExport settings objects) written

pub record WroteWhole (settings : ExportSettings) (objects : List Object) (before after : Outside) (result : Result (Unit {0}) Halt) : Type 0 where
  pub written : List Sent
  pub right : IsExported settings objects written result
  pub added : Added written before after
  pub cause : HaltCause before after result
