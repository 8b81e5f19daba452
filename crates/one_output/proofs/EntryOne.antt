-- A candidate adds one thing.
use Rattle.std.proofs.Common.{All, Bool, List, [], ap, false, subst, sym, true, ℕ, ◌++◌, ◌∙◌, ◌∷◌, ◌≡◌}
use Rattle.std.specs.List.{flat_map}
use Rattle.std.proofs.lemmas.List.Elements.{All-head, All-tail}
use Rattle.osm_elements.specs.declared.object.Object.{Object}
use Rattle.osm_elements.specs.declared.object.ObjectRef.{ObjectRef}
use Rattle.osm_objects.specs.Problem.{IsOfItsKind}
use Rattle.osm_objects.specs.declared.problem.Problem.{Problem}
use Rattle.osm_area.specs.declared.outcome.Outcome.{Outcome}
use Rattle.osm_area.specs.declared.outcome.Outcome.TheVariants.{Area, Problems}
use Rattle.osm_area.specs.Outcome.{IsOutcome, problems_in}
use Rattle.osm_area.proofs.ProblemKinds.{problems_of_kind}
use Rattle.osm_text.specs.Report.{ProblemLineIsOne, note_line}
use Rattle.job_export.specs.Entry.{AreProblemLines, Entry, IsEntry, IsReport, IsReportShown}
use Rattle.osm_area.proofs.OutcomeOne.{candidate-one}

-- ---- report lines
module _ (line-one : ProblemLineIsOne) where
  lines-one : (of : ObjectRef) (ps : List Problem) → All IsOfItsKind ps → (a b : List ℕ) → AreProblemLines of ps a → AreProblemLines of ps b → a ≡ b
  lines-one of [] k a b s t = s ∙ sym t
  lines-one of (p ∷ ps) k a b s t =
      let h = line-one of p (All-head IsOfItsKind p ps k) s.0 t.0 s.2 t.2 in
      let r = lines-one of ps (All-tail IsOfItsKind p ps k) s.1 t.1 s.3 t.3 in
      s.4 ∙ ap (λ (l : List ℕ). l ++ s.1) h ∙ ap (λ (l : List ℕ). t.0 ++ l) r ∙ sym t.4

  report-one : (of : ObjectRef) (o : Outcome) → All IsOfItsKind (problems_in o) → (a b : List ℕ) → IsReport of o a → IsReport of o b → a ≡ b
  report-one of (Area polygons notes) k a b s t = s ∙ sym t
  report-one of (Problems list notes) k a b s t = s.2 ∙ ap (λ (l : List ℕ). l ++ flat_map (note_line of) notes) (lines-one of list k s.0 t.0 s.1 t.1) ∙ sym t.2

  shown-one : (show : Bool) (of : ObjectRef) (o : Outcome) → All IsOfItsKind (problems_in o) → (a b : List ℕ) → IsReportShown show of o a → IsReportShown show of o b → a ≡ b
  shown-one true of o k a b s t = report-one of o k a b s t
  shown-one false of o k a b s t = s ∙ sym t

  entry-same : (e f : Entry) → e.candidate ≡ f.candidate → e.outcome ≡ f.outcome → e.report ≡ f.report → e ≡ f
  entry-same e f a b c = λ i. record { candidate = a i; outcome = b i; report = c i }

  -- a candidate with its outcome and its lines
  pub entry-one : (show : Bool) (objects : List Object) (e f : Entry) → e.candidate ≡ f.candidate → IsEntry show objects e → IsEntry show objects f → e ≡ f
  entry-one show objects e f q s t =
      let right : IsOutcome objects e.candidate f.outcome = subst (λ c. IsOutcome objects c f.outcome) (sym q) t.right in
      let o : e.outcome ≡ f.outcome = candidate-one objects e.candidate e.outcome f.outcome s.right right in
      let shown : IsReportShown show e.candidate e.outcome f.report = subst (λ (x : Outcome). IsReportShown show e.candidate x f.report) (sym o) (subst (λ c. IsReportShown show c f.outcome f.report) (sym q) t.reported) in
      entry-same e f q o (shown-one show e.candidate e.outcome (problems_of_kind objects e.candidate e.outcome s.right) e.report f.report s.reported shown)
