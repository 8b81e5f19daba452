-- The outcomes of a candidate.
use Rattle.std.proofs.Common.{◌≡◌, ◌≢◌, ◌∙◌, Bool, true, List, [], ◌∷◌, ◌++◌, length, map, filter, nat_le, count_by, ℤ, int_eq, Option, None, Some, IsSome, is_some, refl, sym, ap, subst}
use Rattle.std.specs.Prelude.{◌↔◌, ◌==◌}
use Rattle.std.proofs.lemmas.Bool.Decides.{Decides-eqb}
use Rattle.std.proofs.lemmas.List.{nil_from_length}
use Rattle.std.specs.List.{flat_map}
use Rattle.osm_lattice.specs.declared.seg.Seg.{Seg}
use Rattle.osm_elements.specs.declared.object.Object.{Object}
use Rattle.osm_elements.specs.declared.object.ObjectKind.{ObjectKind}
use Rattle.osm_elements.specs.declared.object.ObjectKind.TheVariants.{Way}
use Rattle.osm_elements.specs.declared.object.ObjectRef.{ObjectRef}
use Rattle.osm_objects.specs.declared.problem.Problem.{Problem}
use Rattle.osm_objects.specs.declared.problem.Note.{Note}
use Rattle.osm_area.specs.declared.outcome.Outcome.{Outcome}
use Rattle.osm_area.specs.declared.outcome.Outcome.TheVariants as outcome
use Rattle.lists.specs.Once.{each_once}
use Rattle.osm_area.specs.Names.{differ}
use Rattle.osm_area.proofs.FewNames.{none-twice, once-same}
use Rattle.osm_area.specs.MemberWays.{named_ways, member_ways, ways_named_by, ways_named_twice}
use Rattle.osm_area.specs.Missing.{same_ref, way_missing, missing}
use Rattle.osm_area.specs.Segments.{way_segments, candidate_segments}
use Rattle.osm_area.specs.Problems.{missing_problem, AreProblemsAmong, SurvivorsAre}
use Rattle.osm_segments.specs.declared.counts.Repeat.{Repeat}
use Rattle.osm_segments.specs.Counts.{AreSurvivors}
use Rattle.osm_segments.specs.Repeats.{AreRepeats}
use Rattle.osm_area.specs.Area.{IsArea}
use Rattle.osm_area.specs.Notes.{named_twice_note, repeated_note, AreNotesBefore}
use Rattle.osm_area.specs.Roles.{role_notes, role_notes_of}
use Rattle.osm_nest.specs.declared.polygon.Polygon.{Polygon}
use Rattle.osm_area.specs.Outcome.{IsOutcome, IsOutcomeGiven}

-- ---- the ways, each once, and the notes on them

-- few names, no two of them the same
pub few_ways : (objects : List Object) (candidate : ObjectRef) (named ways : List ℤ) → named ≡ named_ways objects candidate → ways ≡ named → differ ways ≡ true → ways ≡ member_ways objects candidate
few_ways objects candidate named ways n w apart = sym (once-same ways apart) ∙ ap (each_once int_eq) (w ∙ n)

pub few_notes : (objects : List Object) (candidate : ObjectRef) (named ways : List ℤ) (notes : List Note) → named ≡ named_ways objects candidate → ways ≡ named → differ ways ≡ true → notes ≡ []
    → notes ≡ map named_twice_note (ways_named_twice objects candidate)
few_notes objects candidate named ways notes n w apart none =
    none
    ∙ ap (map named_twice_note) (sym (none-twice ways (member_ways objects candidate) apart))
    ∙ ap (λ (ns : List ℤ). map named_twice_note (filter (λ way. nat_le 2 (count_by (int_eq way) ns)) (member_ways objects candidate))) (w ∙ n)

-- a way names itself
pub one_way : (objects : List Object) (candidate : ObjectRef) → candidate.kind ≡ Way → candidate.id ∷ [] ≡ member_ways objects candidate
one_way objects candidate is = ap (λ (kind : ObjectKind). each_once int_eq (ways_named_by objects kind candidate.id)) (sym is)

pub one_note : (objects : List Object) (candidate : ObjectRef) (notes : List Note) → candidate.kind ≡ Way → notes ≡ [] → notes ≡ map named_twice_note (ways_named_twice objects candidate)
one_note objects candidate notes is none =
    few_notes objects candidate (candidate.id ∷ []) (candidate.id ∷ []) notes (ap (λ (kind : ObjectKind). ways_named_by objects kind candidate.id) (sym is)) refl refl none

pub none-once : (refs : List ObjectRef) → each_once same_ref refs ≡ [] → refs ≡ []
none-once [] none = refl
none-once (r ∷ refs) none = absurd (cc)

given_missing : (missing : List ObjectRef) (ways : List ℤ) (segments : List Seg) (roles : List Polygon → List Note) (list : List Problem) (notes : List Note)
    → missing ≢ [] → list ≡ map missing_problem missing → notes ≡ map named_twice_note ways → IsOutcomeGiven missing ways segments roles (outcome.Problems list notes)
given_missing [] ways segments roles list notes some e n = absurd (some refl)
given_missing (r ∷ missing) ways segments roles list notes some e n = (e, (λ none. cc), n)

-- `found` are the segments, or None where a way isn't whole
pub missing_outcome : {A : Type 0} (objects : List Object) (candidate : ObjectRef) (ways : List ℤ) (parts : List ObjectRef) (notes : List Note) (list : List Problem) (found : Option A)
    → ways ≡ member_ways objects candidate → notes ≡ map named_twice_note (ways_named_twice objects candidate) → IsSome found ↔ (flat_map (way_missing objects) ways ≡ []) → found ≡ None
    → parts ≡ each_once same_ref (flat_map (way_missing objects) ways) → list ≡ map missing_problem parts
    → IsOutcome objects candidate (outcome.Problems list notes)
missing_outcome objects candidate ways parts notes list found ways_are notes_are test absent p e =
    let are : parts ≡ missing objects candidate = p ∙ ap (λ ids. each_once same_ref (flat_map (way_missing objects) ids)) ways_are in
    given_missing (missing objects candidate) (ways_named_twice objects candidate) (candidate_segments objects candidate) (role_notes objects candidate) list notes
    (λ none. let some : IsSome found = test.1 (none-once (flat_map (way_missing objects) ways) (sym p ∙ (are ∙ none))) in cc)
    (e ∙ ap (map missing_problem) are)
    notes_are

pub complete_outcome : {A : Type 0} (objects : List Object) (candidate : ObjectRef) (ways named : List ℤ) (notes : List Note) (segs passed : List Seg) (found : Option A) (a : A) (outcome : Outcome)
    → ways ≡ member_ways objects candidate → notes ≡ map named_twice_note (ways_named_twice objects candidate) → IsSome found ↔ (flat_map (way_missing objects) ways ≡ []) → found ≡ Some a → segs ≡ flat_map (way_segments objects) ways → passed ≡ segs
    → ((twice : List ℤ) → notes ≡ map named_twice_note twice → IsOutcomeGiven [] twice passed (role_notes_of objects candidate named) outcome) → named ≡ ways
    → IsOutcome objects candidate outcome
complete_outcome objects candidate ways named notes segs passed found a outcome ways_are notes_are test some s p h n =
    let held : IsSome found = ap is_some some in
    let nothing : [] ≡ missing objects candidate = sym (ap (each_once same_ref) (ap (flat_map (way_missing objects)) (sym ways_are) ∙ test.0 held)) in
    let same : passed ≡ candidate_segments objects candidate = p ∙ (s ∙ ap (flat_map (way_segments objects)) ways_are) in
    let Given : List ObjectRef → Type 0 = λ rs. IsOutcomeGiven rs (ways_named_twice objects candidate) (candidate_segments objects candidate) (role_notes objects candidate) outcome in
    let With : List Seg → Type 0 = λ ss. IsOutcomeGiven [] (ways_named_twice objects candidate) ss (role_notes objects candidate) outcome in
    let Along : List ℤ → Type 0 = λ ws. IsOutcomeGiven [] (ways_named_twice objects candidate) passed (role_notes_of objects candidate ws) outcome in
    subst Given nothing (subst With same (subst Along (n ∙ ways_are) (h (ways_named_twice objects candidate) notes_are)))
