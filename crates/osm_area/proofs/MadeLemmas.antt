-- What surviving segments make, and what comes of it.
use Rattle.std.proofs.Common.{All, Bool, IsSome, List, None, Option, Some, [], ap, arith, false, is_some, length, map, refl, subst, sym, true, ℕ, ℤ, ◌+◌, ◌==◌, ◌∙◌, ◌∷◌, ◌++◌, ◌≡◌, ◌≢◌}
use Rattle.std.specs.Prelude.{◌↔◌}
use Rattle.std.specs.List.{flat_map}
use Rattle.std.proofs.lemmas.Bool.Decides.{nat_tests}
use Rattle.lists.specs.Once.{each_once}
use Rattle.lists.specs.Rising.{IsRising}
use Rattle.osm_lattice.specs.declared.seg.Seg.{Seg}
use Rattle.osm_lattice.specs.Seg.{seg_cmp}
use Rattle.osm_geom.specs.WholeSegment.{IsWholeSegment}
use Rattle.osm_elements.specs.declared.object.Object.{Object}
use Rattle.osm_elements.specs.declared.object.ObjectRef.{ObjectRef}
use Rattle.osm_nest.specs.declared.polygon.Polygon.{Polygon}
use Rattle.osm_nest.specs.Nested.{HasKinds}
use Rattle.osm_nest.specs.Polygons.{rings_of}
use Rattle.osm_objects.specs.declared.problem.Note.{Note}
use Rattle.osm_objects.specs.declared.problem.Problem.{Problem}
use Rattle.osm_objects.specs.declared.problem.Problem.TheVariants.{Nothing}
use Rattle.osm_segments.specs.Counts.{AreSurvivors}
use Rattle.osm_segments.specs.Outlines.{IsOutline}
use Rattle.osm_segments.specs.Pairs.{conflicts_of}
use Rattle.osm_area.specs.Area.{IsArea}
use Rattle.osm_area.specs.Made.{AreMade, IsMadeBy, IsOutlineAmong}
use Rattle.osm_area.specs.MemberWays.{member_ways, ways_named_twice}
use Rattle.osm_area.specs.Missing.{missing, same_ref, way_missing}
use Rattle.osm_area.specs.Notes.{AddsRepeats, AreNotesBefore, AreNotesGiven, named_twice_note, repeated_note}
use Rattle.osm_area.specs.Outcome.{IsAreaOf, IsOutcome, OutcomeExists}
use Rattle.osm_area.specs.Problems.{AreFaults, AreProblemsAmong, AreProblemsGiven, SurvivorsAre, conflict_problem, odd_problem}
use Rattle.osm_area.specs.Segments.{candidate_segments, way_segments}
use Rattle.osm_area.specs.Sound.{IsOutlineFor, IsSound}
use Rattle.osm_area.specs.declared.outcome.Outcome.{Outcome}
use Rattle.osm_area.specs.declared.outcome.Outcome.TheVariants as outcome
use Rattle.osm_area.proofs.OutcomeLemmas.{none-once}
use Rattle.osm_area.proofs.OutcomeOne.{areas-one}
use Rattle.osm_area.proofs.SoundAreas.{has-area-exactly, no-faults, survivors-one}

-- ---- no segment, or some

pub some_left : {X : Type 0} (xs : List X) (n : ℕ) (empty : Bool) → length xs ≡ n → empty ≡ (n == 0) → empty ≡ false → xs ≢ []
some_left [] n empty e is some none = some_by n empty e is some
  where
    some_by : (n : ℕ) (empty : Bool) → 0 ≡ n → empty ≡ (n == 0) → empty ≡ false → ⊥
    some_by n empty e is some = grind (arith, nat_tests)
some_left (x ∷ xs) n empty e is some none = cc

-- ---- segments

pub made_area : (survivors outline : List Seg) (polygons : List Polygon) → survivors ≢ [] → outline ≡ survivors → IsOutline survivors → IsArea outline polygons → All HasKinds polygons → All (All IsWholeSegment) (rings_of polygons) → AreMade survivors polygons
made_area survivors outline polygons some same is area kinds whole = record {
  some = some;
  outline = is;
  area = subst (λ (ss : List Seg). IsArea ss polygons) same area;
  kinds = kinds;
  whole = whole;
}

pub among_faults : (survivors : List Seg) (list : List Problem) → survivors ≢ [] → AreFaults survivors list → AreProblemsAmong survivors list
among_faults [] list some faults = absurd (some refl)
among_faults (s ∷ ss) list some faults = faults

none_among : (survivors : List Seg) → survivors ≢ [] → IsOutline survivors → AreProblemsAmong survivors []
none_among survivors some is =
    among_faults survivors [] some (record { odd_nodes = []; odd = is.even; whole = ap (λ pairs. map conflict_problem pairs ++ map odd_problem []) (sym is.clear) })

pub some_fault : (survivors : List Seg) (list : List Problem) → IsRising seg_cmp survivors → (IsOutline survivors → ⊥) → AreFaults survivors list → list ≢ []
some_fault survivors list rising faulty faults none =
    let clear = no-faults survivors (subst (AreFaults survivors) none faults) in
    faulty (record { rising = rising; clear = clear.0; even = clear.1 })

-- ---- outcomes

pub area_given : (segs : List Seg) (roles : List Note) (polygons : List Polygon) (notes middle last : List Note) (survivors : List Seg) → AreSurvivors segs survivors → AreMade survivors polygons → AddsRepeats segs notes middle → last ≡ middle ++ roles
    → (twice : List ℤ) → notes ≡ map named_twice_note twice
    → SurvivorsAre segs (λ ss. AreProblemsAmong ss []) × SurvivorsAre segs (λ ss. IsArea ss polygons) × AreNotesBefore [] twice segs roles last
area_given segs roles polygons notes middle last survivors are made noted end twice n = (
  (survivors, (are, none_among survivors made.some made.outline)),
  (survivors, (are, made.area)),
  (middle, ((noted.0, (noted.1.0, noted.1.1 ∙ ap (λ (ns : List Note). ns ++ map repeated_note noted.0) n)), end)),
)

pub problems_given : (segs : List Seg) (notes middle : List Note) (survivors : List Seg) (list : List Problem) → AreSurvivors segs survivors → AddsRepeats segs notes middle → AreProblemsAmong survivors list → list ≢ []
    → (twice : List ℤ) → notes ≡ map named_twice_note twice
    → AreProblemsGiven [] segs list × (list ≢ []) × AreNotesGiven [] twice segs middle
problems_given segs notes middle survivors list are noted among some twice n = (
  (survivors, (are, among)),
  some,
  (noted.0, (noted.1.0, noted.1.1 ∙ ap (λ (ns : List Note). ns ++ map repeated_note noted.0) n)),
)

pub nothing_given : (segs : List Seg) (notes middle : List Note) (survivors : List Seg) (list : List Problem) → AreSurvivors segs survivors → AddsRepeats segs notes middle → survivors ≡ [] → list ≡ Nothing ∷ []
    → (twice : List ℤ) → notes ≡ map named_twice_note twice
    → AreProblemsGiven [] segs list × (list ≢ []) × AreNotesGiven [] twice segs middle
nothing_given segs notes middle survivors list are noted none is =
    problems_given segs notes middle [] list (subst (AreSurvivors segs) none are) noted is (λ empty. cc)

-- ---- areas without notes

module _ (objects : List Object) (candidate : ObjectRef) (ways : List ℤ) (ways_are : ways ≡ member_ways objects candidate) where
  -- where a way isn't whole there is no area
  pub none_by_missing : {A : Type 0} (found : Option A) → IsSome found ↔ (flat_map (way_missing objects) ways ≡ []) → found ≡ None → IsSound objects candidate → ⊥
  none_by_missing found test none sound =
      let same : each_once same_ref (flat_map (way_missing objects) ways) ≡ [] = ap (λ ids. each_once same_ref (flat_map (way_missing objects) ids)) ways_are ∙ sound.complete in
      let some : IsSome found = test.1 (none-once (flat_map (way_missing objects) ways) same) in
      cc

  pub outline_by_segments : {A : Type 0} (found : Option A) (a : A) (segs lent : List Seg) → IsSome found ↔ (flat_map (way_missing objects) ways ≡ []) → found ≡ Some a → segs ≡ flat_map (way_segments objects) ways → lent ≡ segs →
      (outline : Option (List Seg)) → IsOutlineAmong lent outline → IsOutlineFor objects candidate outline
  outline_by_segments found a segs lent test some s l None none = λ sound.
      let same : lent ≡ candidate_segments objects candidate = l ∙ s ∙ ap (flat_map (way_segments objects)) ways_are in
      let one = survivors-one (candidate_segments objects candidate) sound.survivors none.0 sound.survive (subst (λ (ss : List Seg). AreSurvivors ss none.0) same none.1.0) in
      let is : IsOutline sound.survivors = record { rising = sound.survive.rising; clear = sound.clear; even = sound.even } in
      none.1.1 (subst (λ (ss : List Seg). ss ≢ []) one sound.some) (subst IsOutline one is)
  outline_by_segments found a segs lent test some s l (Some outline) is =
      let same : lent ≡ candidate_segments objects candidate = l ∙ s ∙ ap (flat_map (way_segments objects)) ways_are in
      let held : IsSome found = ap is_some some in
      let are : AreSurvivors (candidate_segments objects candidate) outline = subst (λ (ss : List Seg). AreSurvivors ss outline) same is.0 in (
        record {
          complete = ap (λ ids. each_once same_ref (flat_map (way_missing objects) ids)) (sym ways_are) ∙ ap (each_once same_ref) (test.0 held);
          survivors = outline;
          survive = are;
          some = is.1;
          clear = is.2.clear;
          even = is.2.even;
        },
        are,
      )

-- the outline of an area has segments
pub some_outline : (objects : List Object) (candidate : ObjectRef) (outline : List Seg) → IsOutlineFor objects candidate (Some outline) → outline ≢ []
some_outline objects candidate outline is =
    subst (λ (ss : List Seg). ss ≢ []) (survivors-one (candidate_segments objects candidate) is.0.survivors outline is.0.survive is.1) is.0.some

pub made_by_outline : (objects : List Object) (candidate : ObjectRef) (outline : List Seg) (polygons : List Polygon) → IsOutlineFor objects candidate (Some outline) → IsArea outline polygons → IsMadeBy objects candidate (Some polygons)
made_by_outline objects candidate outline polygons is area = (is.0, (outline, (is.1, area)))

pub sound_exactly : (objects : List Object) (candidate : ObjectRef) (made : Option (List Polygon)) → IsMadeBy objects candidate made → IsSome made ↔ IsSound objects candidate
sound_exactly objects candidate None made = ((λ some. absurd (cc)), (λ sound. absurd (made sound)))
sound_exactly objects candidate (Some polygons) made = ((λ _. made.0), (λ _. refl))

-- what is made is the area of the outcome that there is
pub area_is : OutcomeExists → (objects : List Object) (candidate : ObjectRef) (made : Option (List Polygon)) → IsMadeBy objects candidate made → IsAreaOf objects candidate made
area_is exist objects candidate made is = by_outcome (exist objects candidate).0 (exist objects candidate).1 made is
  where
    by_outcome : (o : Outcome) → IsOutcome objects candidate o → (made : Option (List Polygon)) → IsMadeBy objects candidate made → IsAreaOf objects candidate made
    by_outcome (outcome.Area polygons notes) right None is = absurd (is ((has-area-exactly objects candidate (outcome.Area polygons notes) right).0 refl))
    by_outcome (outcome.Problems list notes) right None is = (list, notes, right)
    by_outcome (outcome.Area polygons notes) right (Some made) is =
        (notes, subst (λ (ps : List Polygon). IsOutcome objects candidate (outcome.Area ps notes)) (areas-one (missing objects candidate) (candidate_segments objects candidate) right.0 polygons made right.1 is.1) right)
    by_outcome (outcome.Problems list notes) right (Some made) is = absurd (right.1 ((has-area-exactly objects candidate (outcome.Problems list notes) right).1 is.0))
