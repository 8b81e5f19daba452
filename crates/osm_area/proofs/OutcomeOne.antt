-- A candidate has one outcome.
use Rattle.std.proofs.Common.{List, [], ap, map, subst, sym, ℤ, ◌++◌, ◌∙◌, ◌∷◌, ◌≡◌}
use Rattle.osm_lattice.specs.declared.seg.Seg.{Seg}
use Rattle.osm_lattice.specs.Seg.{seg_cmp}
use Rattle.lists.specs.Rising.{IsRising}
use Rattle.osm_segments.specs.Counts.{AreSurvivors}
use Rattle.osm_segments.specs.Pairs.{conflicts_of}
use Rattle.osm_segments.specs.Counts.{HasEvenNodes}
use Rattle.osm_sides.proofs.SidesKit.{directed_is_sided, directions_one}
use Rattle.osm_segments.proofs.SegmentsKit.{odd-nodes-one, repeats_one}
use Rattle.osm_rings.specs.RingList.{AreRingsOf}
use Rattle.osm_nest.specs.declared.polygon.Polygon.{Polygon}
use Rattle.osm_elements.specs.declared.object.Object.{Object}
use Rattle.osm_elements.specs.declared.object.ObjectRef.{ObjectRef}
use Rattle.osm_objects.specs.declared.problem.Note.{Note}
use Rattle.osm_objects.specs.declared.problem.Problem.{Problem}
use Rattle.osm_area.specs.Area.{IsArea}
use Rattle.osm_area.specs.Missing.{missing}
use Rattle.osm_area.specs.MemberWays.{ways_named_twice}
use Rattle.osm_area.specs.Notes.{AreNotesBefore, AreNotesGiven, named_twice_note, repeated_note}
use Rattle.osm_area.specs.Outcome.{IsOutcome, IsOutcomeGiven}
use Rattle.osm_area.specs.Problems.{AreFaults, AreProblemsAmong, AreProblemsGiven, SurvivorsAre, conflict_problem, odd_problem}
use Rattle.osm_area.specs.Roles.{role_notes}
use Rattle.osm_area.specs.Segments.{candidate_segments}
use Rattle.osm_area.specs.declared.outcome.Outcome.{Outcome}
use Rattle.osm_area.specs.declared.outcome.Outcome.TheVariants as outcome
use Rattle.osm_area.proofs.SoundAreas.{no-problems, survivors-one}
use Rattle.osm_nest.proofs.NestedOne.{polygons-one}

-- ---- the area of segments without faults
pub area-one : (segs : List Seg) → IsRising seg_cmp segs → conflicts_of segs ≡ [] → HasEvenNodes segs → (m n : List Polygon) → IsArea segs m → IsArea segs n → m ≡ n
area-one segs rising clear even m n a b =
    let q = directions_one segs b.edges a.edges b.directed a.directed in
    polygons-one a.edges (directed_is_sided segs a.edges rising clear even a.directed) a.made.rings b.made.rings a.made.cut (subst (λ es. AreRingsOf es b.made.rings) q b.made.cut) m n a.made.nested b.made.nested

-- ---- problems, notes and outcome
faults-one : (segs : List Seg) (a b : List Problem) → AreFaults segs a → AreFaults segs b → a ≡ b
faults-one segs a b s t =
    s.whole ∙ ap (λ ns. map conflict_problem (conflicts_of segs) ++ map odd_problem ns) (odd-nodes-one segs s.odd_nodes t.odd_nodes s.odd t.odd) ∙ sym t.whole

among-one : (segs : List Seg) (a b : List Problem) → AreProblemsAmong segs a → AreProblemsAmong segs b → a ≡ b
among-one [] a b s t = s ∙ sym t
among-one (x ∷ segs) a b s t = faults-one (x ∷ segs) a b s t

pub problems-one : (missing : List ObjectRef) (segs : List Seg) (a b : List Problem) → AreProblemsGiven missing segs a → AreProblemsGiven missing segs b → a ≡ b
problems-one [] segs a b s t = among-one s.0 a b s.1.1 (subst (λ l. AreProblemsAmong l b) (survivors-one segs t.0 s.0 t.1.0 s.1.0) t.1.1)
problems-one (r ∷ missing) segs a b s t = s ∙ sym t

pub notes-one : (missing : List ObjectRef) (ways : List ℤ) (segs : List Seg) (a b : List Note) → AreNotesGiven missing ways segs a → AreNotesGiven missing ways segs b → a ≡ b
notes-one [] ways segs a b s t = s.1.1 ∙ ap (λ rs. map named_twice_note ways ++ map repeated_note rs) (repeats_one segs s.0 t.0 s.1.0 t.1.0) ∙ sym t.1.1
notes-one (r ∷ missing) ways segs a b s t = s ∙ sym t

pub areas-one : (missing : List ObjectRef) (segs : List Seg) → AreProblemsGiven missing segs [] → (m n : List Polygon) → SurvivorsAre segs (λ survivors. IsArea survivors m) → SurvivorsAre segs (λ survivors. IsArea survivors n) → m ≡ n
areas-one missing segs h m n a b =
    let sound = no-problems missing segs h in
    let one = λ (survivors : List Seg) (are : AreSurvivors segs survivors). survivors-one segs survivors sound.survivors are sound.survive in
    area-one sound.survivors sound.survive.rising sound.clear sound.even m n
    (subst (λ l. IsArea l m) (one a.0 a.1.0) a.1.1) (subst (λ l. IsArea l n) (one b.0 b.1.0) b.1.1)

before-one : (missing : List ObjectRef) (ways : List ℤ) (segs : List Seg) (roles a b : List Note) → AreNotesBefore missing ways segs roles a → AreNotesBefore missing ways segs roles b → a ≡ b
before-one missing ways segs roles a b s t = s.1.1 ∙ ap (λ l. l ++ roles) (notes-one missing ways segs s.0 t.0 s.1.0 t.1.0) ∙ sym t.1.1

outcome-one : (missing : List ObjectRef) (ways : List ℤ) (segs : List Seg) (roles : List Polygon → List Note) (o p : Outcome) → IsOutcomeGiven missing ways segs roles o → IsOutcomeGiven missing ways segs roles p → o ≡ p
outcome-one missing ways segs roles (outcome.Area m a) (outcome.Area n b) s t =
    let q = areas-one missing segs s.0 m n s.1 t.1 in
    let r = before-one missing ways segs (roles n) a b (subst (λ (l : List Polygon). AreNotesBefore missing ways segs (roles l) a) q s.2) t.2 in
    ap (λ (l : List Polygon). outcome.Area l a) q ∙ ap (λ (l : List Note). outcome.Area n l) r
outcome-one missing ways segs roles (outcome.Area m a) (outcome.Problems l b) s t = absurd (t.1 (problems-one missing segs l [] t.0 s.0))
outcome-one missing ways segs roles (outcome.Problems l a) (outcome.Area n b) s t = absurd (s.1 (problems-one missing segs l [] s.0 t.0))
outcome-one missing ways segs roles (outcome.Problems l a) (outcome.Problems k b) s t =
    ap (λ (x : List Problem). outcome.Problems x a) (problems-one missing segs l k s.0 t.0) ∙ ap (λ (x : List Note). outcome.Problems k x) (notes-one missing ways segs a b s.2 t.2)

-- a candidate has one outcome
pub candidate-one : (objects : List Object) (candidate : ObjectRef) (o p : Outcome) → IsOutcome objects candidate o → IsOutcome objects candidate p → o ≡ p
candidate-one objects candidate o p s t = outcome-one (missing objects candidate) (ways_named_twice objects candidate) (candidate_segments objects candidate) (role_notes objects candidate) o p s t
