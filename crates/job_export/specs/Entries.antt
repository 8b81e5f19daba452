-- Words of private clauses on what candidates add. No public contract cites them.
use Rattle.std.specs.Prelude.{◌≡◌, ℕ, List, ◌++◌}
use Rattle.osm_elements.specs.declared.object.Object.{Object}
use Rattle.osm_elements.specs.declared.object.ObjectRef.{ObjectRef}
use Rattle.osm_area.specs.Outcome.{IsOutcome}
use Rattle.osm_area.specs.declared.outcome.Outcome.{Outcome}
use Rattle.osm_words.specs.Job.{ExportSettings}
use Rattle.job_export.specs.declared.entry.Addition.{Addition}
use Rattle.job_export.specs.Entry.{IsReportShown, area_in, framed_feature}
use Rattle.job_export.specs.Reports.{IsReportOf, TellsKinds}

-- An addition is that of the candidate and its outcome, after `earlier` features.
-- Its feature comes after those that wait, and its report is what is shown of the outcome.
pub record IsAdditionOf (settings : ExportSettings) (objects : List Object) (earlier : ℕ) (candidate : ObjectRef) (waited waiting : List ℕ) (addition : Addition) : Type 0 where
  pub outcome : Outcome
  pub right : IsOutcome objects candidate outcome
  pub area : addition.has_feature ≡ area_in outcome
  pub piece : waiting ≡ waited ++ framed_feature settings objects earlier candidate outcome
  pub reported : (text : List ℕ) → IsReportOf candidate addition.report text → IsReportShown settings.show_errors candidate outcome text
  pub kinds : TellsKinds addition.report
