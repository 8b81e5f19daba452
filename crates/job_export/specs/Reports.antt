-- What is reported of a candidate, as it is held. No public contract cites this.
use Rattle.std.specs.Prelude.{◌≡◌, ℕ, All, List, ◌++◌, Option, None, Some}
use Rattle.std.specs.List.{flat_map}
use Rattle.osm_elements.specs.declared.object.ObjectRef.{ObjectRef}
use Rattle.osm_objects.specs.Problem.{IsOfItsKind}
use Rattle.osm_objects.specs.declared.problem.Note.{Note}
use Rattle.osm_objects.specs.declared.problem.Problem.{Problem}
use Rattle.osm_text.specs.Report.{note_line}
use Rattle.job_export.specs.declared.report.Report.{Report}
use Rattle.job_export.specs.Entry.{AreProblemLines}

-- the lines of problems, if there are any, and then those of notes
abbrev pub AreReportLines : ObjectRef → Option (List Problem) → List Note → List ℕ → Type 0
AreReportLines of None notes text = text ≡ flat_map (note_line of) notes
AreReportLines of (Some problems) notes text = (lines : List ℕ) × AreProblemLines of problems lines × (text ≡ lines ++ flat_map (note_line of) notes)

-- the text of a report
abbrev pub IsReportOf : ObjectRef → Report → List ℕ → Type 0
IsReportOf of report text = AreReportLines of report.problems report.notes text

abbrev pub AreOfTheirKinds : Option (List Problem) → Type 0
AreOfTheirKinds None = Unit {0}
AreOfTheirKinds (Some problems) = All IsOfItsKind problems

-- each conflict in it is of the kind that its segments have
abbrev pub TellsKinds : Report → Type 0
TellsKinds report = AreOfTheirKinds report.problems
