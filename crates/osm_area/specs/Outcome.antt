-- The outcome of a candidate.
use Rattle.std.specs.Prelude.{All, ◌≡◌, ◌≢◌, ◌↔◌, List, [], Option, None, Some, ℤ}
use Rattle.osm_lattice.specs.declared.seg.Seg.{Seg}
use Rattle.osm_elements.specs.declared.object.ObjectRef.{ObjectRef}
use Rattle.osm_elements.specs.declared.object.Object.{Object}
use Rattle.osm_objects.specs.declared.problem.Note.{Note}
use Rattle.osm_objects.specs.Problem.{IsOfItsKind}
use Rattle.osm_objects.specs.declared.problem.Problem.{Problem}
use Rattle.osm_nest.specs.declared.polygon.Polygon.{Polygon}
use Rattle.osm_nest.specs.Nested.{HasKinds}
use Rattle.osm_area.specs.declared.outcome.Outcome.{Outcome}
use Rattle.osm_area.specs.declared.outcome.Outcome.TheVariants as outcome
use Rattle.osm_area.specs.Segments.{candidate_segments}
use Rattle.osm_area.specs.Problems.{AreProblemsGiven, SurvivorsAre}
use Rattle.osm_area.specs.Notes.{AreNotesGiven, AreNotesBefore}
use Rattle.osm_area.specs.MemberWays.{ways_named_twice}
use Rattle.osm_area.specs.Missing.{missing}
use Rattle.osm_area.specs.Area.{IsArea, HaveParityOf}
use Rattle.osm_area.specs.Roles.{role_notes}
use Rattle.osm_area.specs.Sound.{IsSound}

-- the polygons of an area; none if there are problems
abbrev pub polygons_in : Outcome → List Polygon
polygons_in (outcome.Area polygons notes) = polygons
polygons_in (outcome.Problems list notes) = []

-- the problems; none if there is an area
abbrev pub problems_in : Outcome → List Problem
problems_in (outcome.Area polygons notes) = []
problems_in (outcome.Problems list notes) = list

-- The outcome, given the missing parts, the ways named twice, the segments, and the notes on roles as a function of
-- polygons. It is the problems if there are any, and otherwise the area.
abbrev pub IsOutcomeGiven : List ObjectRef → List ℤ → List Seg → (List Polygon → List Note) → Outcome → Type 0
IsOutcomeGiven missing ways segments roles (outcome.Problems list notes) =
    AreProblemsGiven missing segments list × (list ≢ []) × AreNotesGiven missing ways segments notes
IsOutcomeGiven missing ways segments roles (outcome.Area polygons notes) =
    AreProblemsGiven missing segments [] × SurvivorsAre segments (λ survivors. IsArea survivors polygons) × AreNotesBefore missing ways segments (roles polygons) notes

abbrev pub IsOutcome : List Object → ObjectRef → Outcome → Type 0
IsOutcome objects candidate outcome =
    IsOutcomeGiven (missing objects candidate) (ways_named_twice objects candidate) (candidate_segments objects candidate) (role_notes objects candidate) outcome

-- the polygons of the candidate's outcome; none exactly if it has problems
abbrev pub IsAreaOf : List Object → ObjectRef → Option (List Polygon) → Type 0
IsAreaOf objects candidate None = (list : List Problem) × (notes : List Note) × IsOutcome objects candidate (outcome.Problems list notes)
IsAreaOf objects candidate (Some polygons) = (notes : List Note) × IsOutcome objects candidate (outcome.Area polygons notes)

-- at every point the rings of an area together have the parity of the segments that survive
abbrev pub KeepsParity : List Object → ObjectRef → Outcome → Type 0
KeepsParity objects candidate (outcome.Area polygons notes) = SurvivorsAre (candidate_segments objects candidate) (λ survivors. HaveParityOf survivors polygons)
KeepsParity objects candidate (outcome.Problems list notes) = Unit {0}

-- every candidate has an outcome, whose conflicts are of the kinds that their segments have
abbrev pub OutcomeExists : Type 0
OutcomeExists = (objects : List Object) (candidate : ObjectRef) → (outcome : Outcome) × IsOutcome objects candidate outcome × All IsOfItsKind (problems_in outcome)

-- a candidate has an area exactly if it is sound, and otherwise it has problems
abbrev pub HasAreaExactly : Type 0
HasAreaExactly =
    (objects : List Object) (candidate : ObjectRef) (outcome : Outcome) → IsOutcome objects candidate outcome →
    (problems_in outcome ≡ []) ↔ IsSound objects candidate

-- in each polygon of a right area the first ring is outer and the others are inner
abbrev pub AreasHaveKinds : Type 0
AreasHaveKinds =
    (objects : List Object) (candidate : ObjectRef) (outcome : Outcome) → IsOutcome objects candidate outcome →
    All HasKinds (polygons_in outcome)
