-- The kinds of conflicts among a candidate's problems.
use Rattle.std.proofs.Common.{sym, subst, get_or, List, [], ◌∷◌, map, All}
use Rattle.std.proofs.lemmas.List.Elements.{All-nil, All-cons, All-append, All-map}
use Rattle.osm_elements.specs.declared.object.Object.{Object}
use Rattle.osm_elements.specs.declared.object.ObjectRef.{ObjectRef}
use Rattle.osm_elements.specs.declared.object.ObjectKind.{ObjectKind}
use Rattle.osm_elements.specs.declared.object.ObjectKind.TheVariants.{Node, Way, Relation}
use Rattle.osm_lattice.specs.declared.seg.Seg.{Seg}
use Rattle.osm_objects.specs.declared.problem.Problem.{Problem}
use Rattle.osm_objects.specs.declared.problem.Problem.TheVariants as problem
use Rattle.osm_objects.specs.Problem.{IsOfItsKind}
use Rattle.osm_segments.specs.Pairs.{conflicts_of}
use Rattle.osm_segments.proofs.SegmentsKit.{conflicts_of_kind}
use Rattle.osm_area.specs.declared.outcome.Outcome.{Outcome}
use Rattle.osm_area.specs.declared.outcome.Outcome.TheVariants as outcome
use Rattle.osm_area.specs.Outcome.{IsOutcome, problems_in}
use Rattle.osm_area.specs.Problems.{missing_of, missing_problem, conflict_problem, odd_problem, AreProblemsAmong, AreProblemsGiven}
use Rattle.osm_area.specs.Missing.{missing}
use Rattle.osm_area.specs.Segments.{candidate_segments}

among-of_kind : (survivors : List Seg) (list : List Problem) → AreProblemsAmong survivors list → All IsOfItsKind list
among-of_kind [] list is = subst (λ (ps : List Problem). All IsOfItsKind ps) (sym is) (All-cons IsOfItsKind problem.Nothing [] tt (All-nil IsOfItsKind))
among-of_kind (s ∷ survivors) list faults =
    subst (λ (ps : List Problem). All IsOfItsKind ps) (sym faults.whole)
    (All-append IsOfItsKind (map conflict_problem (conflicts_of (s ∷ survivors))) (map odd_problem faults.odd_nodes)
    (All-map IsOfItsKind conflict_problem (conflicts_of (s ∷ survivors)) (conflicts_of_kind (s ∷ survivors)))
    (All-map IsOfItsKind odd_problem faults.odd_nodes (λ k d lt. tt)))

missing-of_kind : (kind : ObjectKind) (r : ObjectRef) → IsOfItsKind (missing_of kind r.id)
missing-of_kind Node r = tt
missing-of_kind Way r = tt
missing-of_kind Relation r = tt

given-of_kind : (missing : List ObjectRef) (segments : List Seg) (list : List Problem) → AreProblemsGiven missing segments list → All IsOfItsKind list
given-of_kind [] segments list is = among-of_kind is.0 list is.1.1
given-of_kind (r ∷ missing) segments list is =
    subst (λ (ps : List Problem). All IsOfItsKind ps) (sym is) (All-map IsOfItsKind missing_problem (r ∷ missing) (λ k d lt. missing-of_kind (get_or (r ∷ missing) k d).kind (get_or (r ∷ missing) k d)))

-- each conflict among a candidate's problems has the kind of its segments
pub problems_of_kind : (objects : List Object) (candidate : ObjectRef) (o : Outcome) → IsOutcome objects candidate o → All IsOfItsKind (problems_in o)
problems_of_kind objects candidate (outcome.Area polygons notes) is = All-nil IsOfItsKind
problems_of_kind objects candidate (outcome.Problems list notes) is = given-of_kind (missing objects candidate) (candidate_segments objects candidate) list is.0
