-- Every candidate has an outcome, whatever memory there is.
use Rattle.std.proofs.Common.{◌≡◌, ◌∙◌, ◌%◌, ◌==◌, List, [], ◌∷◌, ◌++◌, map, ℤ, refl, subst}
use Rattle.osm_lattice.specs.declared.loc.Loc.{Loc}
use Rattle.osm_lattice.specs.declared.seg.Seg.{Seg}
use Rattle.osm_lattice.specs.Loc.{loc_cmp}
use Rattle.osm_lattice.specs.Seg.{seg_cmp}
use Rattle.osm_lattice.proofs.LatticeKit.{loc_total, seg_total}
use Rattle.osm_elements.specs.declared.object.ObjectRef.{ObjectRef}
use Rattle.lists.specs.Rising.{count_of}
use Rattle.lists.proofs.ListsKit.{count-picked, odd_once, picked, rising-picked}
use Rattle.osm_objects.specs.declared.problem.Note.{Note}
use Rattle.osm_objects.specs.declared.problem.Problem.{Problem}
use Rattle.osm_objects.specs.declared.problem.Problem.TheVariants.{Nothing}
use Rattle.osm_segments.specs.declared.counts.Repeat.{Repeat}
use Rattle.osm_segments.specs.Counts.{AreSurvivors, AreOddNodes, ends_of}
use Rattle.osm_segments.specs.Pairs.{conflicts_of}
use Rattle.osm_segments.specs.Laws.{RepeatsExist}
use Rattle.osm_segments.specs.Repeats.{AreRepeats}
use Rattle.osm_sides.specs.Laws.{DirectionsExist}
use Rattle.osm_rings.specs.Laws.{RingListOfEdgesExists}
use Rattle.osm_nest.specs.declared.polygon.Polygon.{Polygon}
use Rattle.osm_nest.specs.Laws.{NestingExists, RingsMayBeNested}
use Rattle.osm_area.specs.declared.outcome.Outcome.{Outcome}
use Rattle.osm_area.specs.declared.outcome.Outcome.TheVariants as outcome
use Rattle.osm_area.specs.MemberWays.{ways_named_twice}
use Rattle.osm_area.specs.Missing.{missing}
use Rattle.osm_area.specs.Notes.{named_twice_note, repeated_note}
use Rattle.osm_area.specs.Outcome.{IsOutcomeGiven, OutcomeExists}
use Rattle.osm_area.specs.Problems.{missing_problem, conflict_problem, odd_problem}
use Rattle.osm_area.specs.Roles.{role_notes}
use Rattle.osm_area.specs.Segments.{candidate_segments}
use Rattle.osm_area.proofs.AreaExists.{area_exists}
use Rattle.osm_area.proofs.ProblemKinds.{problems_of_kind}

-- ---- what is counted

abbrev survivors_of : List Seg → List Seg
survivors_of segs = picked seg_cmp (λ n. n % 2 == 1) segs

are_survivors : (segs : List Seg) → AreSurvivors segs (survivors_of segs)
are_survivors segs = record {
  odd = λ s. count-picked seg_total (λ n. n % 2 == 1) segs s ∙ odd_once (count_of seg_cmp s segs);
  rising = rising-picked seg_total (λ n. n % 2 == 1) segs;
}

abbrev odd_nodes_of : List Seg → List Loc
odd_nodes_of segs = picked loc_cmp (λ n. n % 2 == 1) (ends_of segs)

are_odd_nodes : (segs : List Seg) → AreOddNodes segs (odd_nodes_of segs)
are_odd_nodes segs = record {
  odd = λ p. count-picked loc_total (λ n. n % 2 == 1) (ends_of segs) p ∙ odd_once (count_of loc_cmp p (ends_of segs));
  rising = rising-picked loc_total (λ n. n % 2 == 1) (ends_of segs);
}

-- ---- what comes of it

none-first : {X Y Z : Type 0} (f : X → Z) (g : Y → Z) (xs : List X) (ys : List Y) → [] ≡ map f xs ++ map g ys → xs ≡ []
none-first f g [] ys none = refl
none-first f g (x ∷ xs) ys none = absurd (cc)

none-second : {X Y Z : Type 0} (f : X → Z) (g : Y → Z) (xs : List X) (ys : List Y) → [] ≡ map f xs ++ map g ys → ys ≡ []
none-second f g [] [] none = refl
none-second f g [] (y ∷ ys) none = absurd (cc)
none-second f g (x ∷ xs) ys none = absurd (cc)

module _ (repeats : RepeatsExist) (directions : DirectionsExist) (cut : RingListOfEdgesExists) (fit : RingsMayBeNested) (nest : NestingExists) where
  module _ (twice : List ℤ) (segs : List Seg) (roles : List Polygon → List Note) where
    abbrev repeated : List Repeat
    repeated = (repeats segs).0

    are_repeats : AreRepeats segs repeated
    are_repeats = (repeats segs).1

    abbrev notes : List Note
    notes = map named_twice_note twice ++ map repeated_note repeated

    -- by the problems, and by what they are made of
    by_faults : (s : Seg) (ss : List Seg) → AreSurvivors segs (s ∷ ss) → (nodes : List Loc) → AreOddNodes (s ∷ ss) nodes → (list : List Problem)
        → list ≡ map conflict_problem (conflicts_of (s ∷ ss)) ++ map odd_problem nodes → (o : Outcome) × IsOutcomeGiven [] twice segs roles o
    by_faults s ss are nodes odd [] e =
        let clear = none-first conflict_problem odd_problem (conflicts_of (s ∷ ss)) nodes e in
        let even = none-second conflict_problem odd_problem (conflicts_of (s ∷ ss)) nodes e in
        let area = area_exists directions cut fit nest (s ∷ ss) (λ none. cc) are.rising clear (subst (AreOddNodes (s ∷ ss)) even odd) in (
          outcome.Area area.0 (notes ++ roles area.0),
          (
            (s ∷ ss, (are, record { odd_nodes = nodes; odd = odd; whole = e })),
            (s ∷ ss, (are, area.1)),
            (notes, ((repeated, (are_repeats, refl)), refl)),
          ),
        )
    by_faults s ss are nodes odd (p ∷ list) e = (
      outcome.Problems (p ∷ list) notes,
      (
        (s ∷ ss, (are, record { odd_nodes = nodes; odd = odd; whole = e })),
        (λ none. cc),
        (repeated, (are_repeats, refl)),
      ),
    )

    by_survivors : (survivors : List Seg) → AreSurvivors segs survivors → (o : Outcome) × IsOutcomeGiven [] twice segs roles o
    by_survivors [] are = (outcome.Problems (Nothing ∷ []) notes, (([], (are, refl)), (λ none. cc), (repeated, (are_repeats, refl))))
    by_survivors (s ∷ ss) are =
        by_faults s ss are (odd_nodes_of (s ∷ ss)) (are_odd_nodes (s ∷ ss)) (map conflict_problem (conflicts_of (s ∷ ss)) ++ map odd_problem (odd_nodes_of (s ∷ ss))) refl

  by_missing : (parts : List ObjectRef) (twice : List ℤ) (segs : List Seg) (roles : List Polygon → List Note) → (o : Outcome) × IsOutcomeGiven parts twice segs roles o
  by_missing [] twice segs roles = by_survivors twice segs roles (survivors_of segs) (are_survivors segs)
  by_missing (r ∷ parts) twice segs roles = (outcome.Problems (map missing_problem (r ∷ parts)) (map named_twice_note twice), (refl, (λ none. cc), refl))

  pub exists : OutcomeExists
  exists objects candidate =
      let found = by_missing (missing objects candidate) (ways_named_twice objects candidate) (candidate_segments objects candidate) (role_notes objects candidate) in
      (found.0, found.1, problems_of_kind objects candidate found.0 found.1)
