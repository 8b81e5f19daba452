-- How what a candidate adds is written, however its addition came about. No public contract cites this.
use Rattle.std.specs.Prelude.{ℕ, List, Result}
use Rattle.osm_elements.specs.declared.object.Object.{Object}
use Rattle.osm_elements.specs.declared.object.ObjectRef.{ObjectRef}
use Rattle.osm_host.specs.Outside.{Outside}
use Rattle.osm_words.specs.Job.{ExportSettings}
use Rattle.job_export.specs.declared.entry.Addition.{Addition}
use Rattle.job_export.specs.declared.work.Halt.{Halt}
use Rattle.job_export.specs.Entries.{IsAdditionOf}
use Rattle.job_export.specs.ExportSteps.{WroteCandidate}

-- What a candidate adds was written, whichever objects it is assembled from and whatever waited before its feature.
abbrev pub WroteAddition : ExportSettings → ObjectRef → Addition → List ℕ → List ℕ → Outside → Outside → Result ℕ Halt → Type 0
WroteAddition settings candidate addition waiting left before after result =
    (objects : List Object) (earlier : ℕ) (waited : List ℕ) → IsAdditionOf settings objects earlier candidate waited waiting addition →
    WroteCandidate settings objects earlier candidate waited left before after result
