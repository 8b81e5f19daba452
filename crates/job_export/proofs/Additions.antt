-- What a candidate adds, with and without its report lines.
use Rattle.std.proofs.Common.{◌≡◌, ◌∙◌, ◌++◌, All, Bool, List, None, Option, Some, [], append-nil, false, refl, subst, sym, true, ℕ}
use Rattle.osm_area.specs.Outcome.{IsAreaOf, IsOutcome}
use Rattle.osm_area.specs.declared.outcome.Outcome.{Outcome}
use Rattle.osm_area.specs.declared.outcome.Outcome.TheVariants.{Area, Problems}
use Rattle.osm_elements.specs.declared.object.Object.{Object}
use Rattle.osm_elements.specs.declared.object.ObjectRef.{ObjectRef}
use Rattle.osm_nest.specs.declared.polygon.Polygon.{Polygon}
use Rattle.osm_objects.specs.Problem.{IsOfItsKind}
use Rattle.osm_objects.specs.declared.problem.Note.{Note}
use Rattle.osm_objects.specs.declared.problem.Problem.{Problem}
use Rattle.osm_words.specs.Job.{ExportSettings}
use Rattle.job_export.specs.Entries.{IsAdditionOf}
use Rattle.job_export.specs.Entry.{IsReportShown, framed_feature}
use Rattle.job_export.specs.Reports.{AreOfTheirKinds, AreReportLines, IsReportOf, TellsKinds}
use Rattle.job_export.specs.declared.report.Report.{Report}

-- the empty report alone is empty
silent : (of : ObjectRef) (report : Report) → report.problems ≡ None → report.notes ≡ [] → (text : List ℕ) → IsReportOf of report text → text ≡ []
silent of report problems notes text is =
    let none : AreReportLines of None report.notes text = subst (λ (ps : Option (List Problem)). AreReportLines of ps report.notes text) problems is in
    subst (λ (ns : List Note). AreReportLines of None ns text) notes none

module _ (settings : ExportSettings) (objects : List Object) (earlier : ℕ) (c : ObjectRef) (waited waiting : List ℕ) where
  module _ (quiet : settings.show_errors ≡ false) (report : Report) (problems : report.problems ≡ None) (notes : report.notes ≡ []) where
    reported_nothing : (outcome : Outcome) (text : List ℕ) → IsReportOf c report text → IsReportShown settings.show_errors c outcome text
    reported_nothing outcome text is = subst (λ (show : Bool). IsReportShown show c outcome text) (sym quiet) (silent c report problems notes text is)

    tells_nothing : TellsKinds report
    tells_nothing = subst AreOfTheirKinds (sym problems) tt

    pub quiet_area : (polygons : List Polygon) (area : IsAreaOf objects c (Some polygons)) → waiting ≡ waited ++ framed_feature settings objects earlier c (Area polygons []) → IsAdditionOf settings objects earlier c waited waiting (record { has_feature = true; report = report })
    quiet_area polygons area piece = record {
      outcome = Area polygons area.0;
      right = area.1;
      area = refl;
      piece = piece;
      reported = reported_nothing (Area polygons area.0);
      kinds = tells_nothing;
    }

    pub quiet_problems : IsAreaOf objects c None → waiting ≡ waited → IsAdditionOf settings objects earlier c waited waiting (record { has_feature = false; report = report })
    quiet_problems none same = record {
      outcome = Problems none.0 none.1;
      right = none.2;
      area = refl;
      piece = same ∙ sym (append-nil waited);
      reported = reported_nothing (Problems none.0 none.1);
      kinds = tells_nothing;
    }

  module _ (shown : settings.show_errors ≡ true) where
    pub shown_area : (polygons : List Polygon) (notes : List Note) → IsOutcome objects c (Area polygons notes) → waiting ≡ waited ++ framed_feature settings objects earlier c (Area polygons notes) →
        IsAdditionOf settings objects earlier c waited waiting (record { has_feature = true; report = record { problems = None; notes = notes } })
    shown_area polygons notes right piece = record {
      outcome = Area polygons notes;
      right = right;
      area = refl;
      piece = piece;
      reported = λ text is. subst (λ (show : Bool). IsReportShown show c (Area polygons notes) text) (sym shown) is;
      kinds = tt;
    }

    pub shown_problems : (list : List Problem) (notes : List Note) → IsOutcome objects c (Problems list notes) → All IsOfItsKind list → waiting ≡ waited →
        IsAdditionOf settings objects earlier c waited waiting (record { has_feature = false; report = record { problems = Some list; notes = notes } })
    shown_problems list notes right kinds same = record {
      outcome = Problems list notes;
      right = right;
      area = refl;
      piece = same ∙ sym (append-nil waited);
      reported = λ text is. subst (λ (show : Bool). IsReportShown show c (Problems list notes) text) (sym shown) is;
      kinds = kinds;
    }
