-- What is met first of the edges that leave is the successor.
use Rattle.std.proofs.Common.{◌≡◌, ℕ, suc, zero, ◌<◌, List, [], ◌∷◌, length, Bool, true, false, cond, Option, Some, None, refl, sym, ap, subst, ◌∙◌, arith, ⊎_elim}
use Rattle.std.proofs.lemmas.Bool.{cases_lt}
use Rattle.std.proofs.lemmas.List.{get_or_past}
use Rattle.plane_lists.specs.Rings.Walk.{IsSuccessor}
use Rattle.plane_lists.proofs.NestingKit.{sided-once, clear-two, next_leaves, next_one, no-loop-segments, segment-ends, rise, sym-differs, way-segment, next_there}
use Rattle.plane.specs.Edge.{Edge, ends_at, other_end, same_edge, segment_of}
use Rattle.plane.specs.Sector.{in_sector}
use Rattle.plane.specs.Vector.{IsNonZero, Vector, from_to, same_point}
use Rattle.plane.proofs.PlaneKit.{ends_at-from, ends_at-to, same_edge-true, same_point-refl}
use Rattle.lists.specs.Member.{EachPair, In}
use Rattle.plane_lists.specs.Lists.Sided.{IsSided}
use Rattle.plane_lists.proofs.WindingKit.{way, way-direction, ways_apart}
use Rattle.orbits.specs.Orbits.{after}
use Rattle.osm_rings.specs.Clockwise.{is_met_before}
use Rattle.osm_rings.specs.Numbered.{edge_at, nowhere}
use Rattle.osm_rings.specs.Departures.{IsFirstFrom, IsFirstMet, step_at}
use Rattle.osm_rings.proofs.Clockwise.{apart, sector-holds}
use Rattle.osm_rings.proofs.OrbitWalks.{edge-in, place-in}
use Rattle.osm_rings.proofs.PlaneNumbers.{AreSuccessors}

leaves-end : (v : Vector) (g : Edge) → g.from ≡ v → ends_at v g ≡ true
leaves-end v g e = subst (λ w. ends_at w g ≡ true) e (ends_at-from g)

other-out : (v : Vector) (g : Edge) → g.from ≡ v → other_end v g ≡ g.to
other-out v g e = subst (λ w. other_end w g ≡ g.to) e (ap (λ b. cond b g.to g.from) (same_point-refl g.from))

-- in a list without repeats a place is told by what stands there
told-by : (xs : List Edge) → EachPair (λ (x y : Edge). x ≡ y → ⊥) xs → (i k : ℕ) → i < length xs → k < length xs → edge_at xs i ≡ edge_at xs k → i ≡ k
told-by [] o i k h l e = absurd (omega arith)
told-by (x ∷ xs) o zero zero h l e = refl
told-by (x ∷ xs) o zero (suc k) h l e = absurd (o.0 k nowhere (omega arith) e)
told-by (x ∷ xs) o (suc i) zero h l e = absurd (o.0 i nowhere (omega arith) (sym e))
told-by (x ∷ xs) o (suc i) (suc k) h l e = ap suc (told-by xs o.1 i k (omega arith) (omega arith) e)

module _ (es : List Edge) (sd : IsSided es) where
  -- an edge does not end where it begins
  no-loop : (e : Edge) → In e es → same_point e.to e.from ≡ false
  no-loop e i = decide (same_point e.to e.from) refl
    where
      decide : (b : Bool) → same_point e.to e.from ≡ b → b ≡ false
      decide true h = absurd (no-loop-segments e.to e h (same_point-refl e.to) (rise es sd e i))
      decide false h = refl

  module _ (i j : ℕ) (h : i < length es) (first : IsFirstFrom es (edge_at es i) j) where
    abbrev e : Edge
    e = edge_at es i

    abbrev g : Edge
    g = edge_at es j

    in_e : In e es
    in_e = edge-in es i h

    in_g : In g es
    in_g = edge-in es j first.inside

    not-same : same_edge e g ≡ false
    not-same = decide (same_edge e g) refl
      where
        clash : (b : Bool) → b ≡ true → b ≡ false → ⊥
        clash b p q = cc

        decide : (b : Bool) → same_edge e g ≡ b → b ≡ false
        decide true s =
            let back : e.to ≡ e.from = sym first.leaves ∙ ap (λ x. x.from) (sym (same_edge-true e g s)) in
            absurd (clash (same_point e.to e.from) (subst (λ v. same_point e.to v ≡ true) back (same_point-refl e.to)) (no-loop e in_e))
        decide false s = refl

    way-is : (f : Edge) → In f es → f.from ≡ e.to → way e.to (segment_of f) ≡ from_to e.to f.to
    way-is f in_f leaves = way-segment e.to f (leaves-end e.to f leaves) (rise es sd f in_f) ∙ ap (λ w. from_to e.to w) (other-out e.to f leaves)

    way-set : (f : Edge) → In f es → f.from ≡ e.to → IsNonZero (from_to e.to f.to)
    way-set f in_f leaves = subst IsNonZero (way-is f in_f leaves) (way-direction e.to (segment_of f) (segment-ends e.to f (leaves-end e.to f leaves)) (rise es sd f in_f))

    back-is : way e.to (segment_of e) ≡ from_to e.to e.from
    back-is = way-segment e.to e (ends_at-to e) (rise es sd e in_e) ∙ ap (λ b. from_to e.to (cond b e.to e.from)) (no-loop e in_e)

    back-set : IsNonZero (from_to e.to e.from)
    back-set = subst IsNonZero back-is (way-direction e.to (segment_of e) (segment-ends e.to e (ends_at-to e)) (rise es sd e in_e))

    same-by : (f : Edge) → IsSuccessor es e f → (b : Bool) → same_edge f g ≡ b → f ≡ g
    same-by f n true s = same_edge-true f g s
    same-by f n false s =
        let v = e.to in
        let in_f = n.member in
        let out : f.from ≡ v = sym (next_leaves es sd e f in_e n) in
        let k = place-in es nowhere f in_f in
        let out_k : (edge_at es k.0).from ≡ v = ap (λ x. x.from) k.2 ∙ out in
        let way_f : step_at es k.0 ≡ from_to v f.to = ap (λ x. from_to x.from x.to) k.2 ∙ ap (λ w. from_to w f.to) out in
        let way_g : step_at es j ≡ from_to v g.to = ap (λ w. from_to w g.to) first.leaves in
        let later : is_met_before (from_to v e.from) (from_to v f.to) (from_to v g.to) ≡ false =
        subst (λ w. is_met_before (from_to v e.from) (from_to v f.to) w ≡ false) way_g (subst (λ w. is_met_before (from_to v e.from) w (step_at es j) ≡ false) way_f (first.first k.0 k.1 out_k)) in
        let g_f : same_edge g f ≡ false = sym-differs g f s in
        let ways : apart (way v (segment_of g)) (way v (segment_of f)) ≡ true =
        ways_apart v (segment_of g) (segment_of f) (segment-ends v g (leaves-end v g first.leaves)) (segment-ends v f (leaves-end v f out)) (rise es sd g in_g) (rise es sd f in_f) (clear-two es sd g f in_g in_f g_f) in
        let apart_gf : apart (from_to v g.to) (from_to v f.to) ≡ true =
        subst (λ w. apart (from_to v g.to) w ≡ true) (way-is f in_f out) (subst (λ w. apart w (way v (segment_of f)) ≡ true) (way-is g in_g first.leaves) ways) in
        let holds : in_sector (from_to v f.to) (from_to v e.from) (from_to v g.to) ≡ 1 =
        sector-holds (from_to v e.from) (from_to v g.to) (from_to v f.to) back-set (way-set g in_g first.leaves) (way-set f in_f out) apart_gf later in
        let between : in_sector (from_to v (other_end v f)) (from_to v (other_end v e)) (from_to v (other_end v g)) ≡ 0 = n.first g in_g (leaves-end v g first.leaves) not-same s in
        let outside : in_sector (from_to v f.to) (from_to v e.from) (from_to v g.to) ≡ 0 =
        ap (λ w. in_sector (from_to v w) (from_to v e.from) (from_to v g.to)) (sym (other-out v f out))
        ∙ (ap (λ b. in_sector (from_to v (other_end v f)) (from_to v (cond b e.to e.from)) (from_to v g.to)) (sym (no-loop e in_e))
        ∙ (ap (λ w. in_sector (from_to v (other_end v f)) (from_to v (other_end v e)) (from_to v w)) (sym (other-out v g first.leaves)) ∙ between)) in
        absurd (omega arith)

    -- the first of those that leave is the successor
    pub first-succeeds : IsSuccessor es e g
    first-succeeds =
        let f = next_there es sd e in_e in
        subst (IsSuccessor es e) (same-by f.0 f.1 (same_edge f.0 g) refl) f.1

  -- some edge leaves the end of each
  pub some-leaves : (e : Edge) → In e es → IsFirstMet es e None → ⊥
  some-leaves e in_e met =
      let f = next_there es sd e in_e in
      let k = place-in es nowhere f.0 f.1.member in
      met.none refl k.0 k.1 (ap (λ x. x.from) k.2 ∙ sym (next_leaves es sd e f.0 in_e f.1))

  module _ (next : List (Option ℕ)) (sized : length next ≡ length es) (met : (i : ℕ) → i < length es → IsFirstMet es (edge_at es i) (after next i)) where
    has-place : (i j : ℕ) → after next i ≡ Some j → i < length es
    has-place i j e = ⊎_elim (λ h. h) (λ h. let n : after next i ≡ None = get_or_past next i None (omega arith) in absurd (cc)) (cases_lt i (length es))

    succeeds : (i j : ℕ) → i < length es → after next i ≡ Some j → IsSuccessor es (edge_at es i) (edge_at es j)
    succeeds i j h e = first-succeeds i j h ((met i h).some j e)

    goes-on : (i : ℕ) → i < length es → (r : Option ℕ) → after next i ≡ r → (j : ℕ) × (after next i ≡ Some j)
    goes-on i h (Some j) e = (j, e)
    goes-on i h None e = absurd (some-leaves (edge_at es i) (edge-in es i h) (subst (IsFirstMet es (edge_at es i)) e (met i h)))

    pub are-successors : AreSuccessors es next
    are-successors = record {
      sized = sized;
      map = record {
        within = λ i j e. let h = has-place i j e in let inside = ((met i h).some j e).inside in omega arith;
        one = λ i k j e f.
            let h = has-place i j e in
            let l = has-place k j f in
            told-by es (sided-once es sd) i k h l (next_one es sd (edge_at es i) (edge_at es k) (edge_at es j) (edge-in es i h) (edge-in es k l) (succeeds i j h e) (succeeds k j l f));
      };
      total = λ i h. goes-on i h (after next i) refl;
      right = λ i j e. succeeds i j (has-place i j e) e;
    }
