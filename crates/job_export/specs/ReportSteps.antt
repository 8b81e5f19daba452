-- How report lines are written, alone and after the features that wait. No public contract cites this.
use Rattle.std.specs.Prelude.{◌≡◌, ℕ, List, [], ◌++◌, map, Result, Ok, Err}
use Rattle.osm_host.specs.Outside.{Outside}
use Rattle.osm_job.specs.Prefix.{IsPrefix}
use Rattle.osm_job.specs.Sent.{Sent, to_output, to_report}
use Rattle.osm_job.specs.Writes.{Added}
use Rattle.job_export.specs.declared.work.Halt.{Halt}
use Rattle.job_export.specs.declared.work.Halt.TheVariants.{Stopped, WriteFault, OutOfMemory}
use Rattle.job_export.specs.ExportSteps.{HaltCause}

-- Lines were written after what waited: all of both, or a prefix. If memory ran out, all that waited was written.
abbrev pub AreSentBehind : List Sent → List Sent → List Sent → Result (Unit {0}) Halt → Type 0
AreSentBehind waited lines written (Ok done) = written ≡ waited ++ lines
AreSentBehind waited lines written (Err (Stopped candidate)) = ⊥
AreSentBehind waited lines written (Err WriteFault) = IsPrefix written (waited ++ lines)
AreSentBehind waited lines written (Err OutOfMemory) = (more : List Sent) × IsPrefix more lines × (written ≡ waited ++ more)

-- A right report text was written after what waited, or a prefix of both if the run stopped early.
pub record WroteBehind (waited : List ℕ) (IsText : List ℕ → Type 0) (before after : Outside) (result : Result (Unit {0}) Halt) : Type 0 where
  pub text : List ℕ
  pub right : IsText text
  pub written : List Sent
  pub sent : AreSentBehind (map to_output waited) (map to_report text) written result
  pub added : Added written before after
  pub cause : HaltCause before after result

-- the same if nothing waited
abbrev pub WroteLines : (List ℕ → Type 0) → Outside → Outside → Result (Unit {0}) Halt → Type 0
WroteLines IsText before after result = WroteBehind [] IsText before after result
