-- Walks round a closed line: its steps along segments, what is reached behind them, and its locations, marked.
use Rattle.std.proofs.Common.{◌≡◌, inl, inr, ℕ, ◌+◌, ◌<◌, ◌≤◌, ◌||◌, Bool, false, All, Contains, List, [], ◌∷◌, ◌++◌, Some, drop, length, get_or, map, replicate, take, refl, sym, ap, ◌∙◌, arith}
use Rattle.std.specs.Prelude.{nat_lt}
use Rattle.std.specs.List.{enumerate_from, filter_map, list_any, slice_get}
use Rattle.std.specs.Option.{option_to_list}
use Rattle.std.proofs.lemmas.Bool.{false_from_ne_true}
use Rattle.std.proofs.lemmas.List.{append-nil, drop_all, get_or-map, get_or-replicate, length-map, length-replicate, take_all, take_more}
use Rattle.std.proofs.lemmas.List.Elements.{Contains-get_or}
use Rattle.std.proofs.lemmas.List.FromFn.{get_or-enumerate_from, length-enumerate_from}
use Rattle.std.proofs.lemmas.Option.{get_or_from_slice_get, slice_get_read, slice_get_within}
use Rattle.osm_lattice.specs.ConflictLaws.{ConflictIsSymmetric}
use Rattle.osm_lattice.specs.OrderLaws.{SegmentOrderTellsApart}
use Rattle.osm_lattice.specs.declared.loc.Loc.{Loc}
use Rattle.osm_lattice.specs.declared.seg.Seg.{Seg}
use Rattle.osm_segments.specs.Counts.{AreDistinct}
use Rattle.osm_segments.specs.Pairs.{conflicts_of}
use Rattle.osm_segments.specs.Places.{AreConflictPlaces, pair_at}
use Rattle.osm_segments.specs.declared.pairs.Pair.{Pair}
use Rattle.osm_segments.specs.declared.places.Places.{Places}
use Rattle.coast_sides.specs.Segments.{segments_round, steps_round}
use Rattle.coast_sides.specs.Shortcuts.{is_cut_out, marked}
use Rattle.coast_sides.specs.ShortcutSteps.{AreReaches, AreStepsAlong, IsCarriedRound, is_reached, pair_cuts_out, step_along, steps_along, told_cuts_out}
use Rattle.coast_sides.specs.declared.steps_along.StepAlong.{StepAlong}
use Rattle.coast_sides.proofs.ConflictSteps.{Numbered, cut_by_pairs, step_out}
use Rattle.coast_sides.proofs.FarSteps.{LiesWithin}
use Rattle.coast_sides.proofs.ListSteps.{given_step}
use Rattle.coast_sides.proofs.ReachedLocations.{Reached, carried_reaches, reached_out}
use Rattle.coast_sides.proofs.RoundSteps.{after_round, steps_at, zip_short}
use Rattle.coast_sides.proofs.ShorterLines.{numbered_get}

-- ---- steps, one after the other

pub numbered_more : (path : List Loc) (i j : ℕ) (p q : Loc) (now new : List StepAlong) → i < length path → j < length path → j ≡ after_round i (length path) → p ≡ get_or path i p → q ≡ get_or path j q
    → now ≡ filter_map step_along (take i (enumerate_from 0 (steps_round path))) → new ≡ now ++ option_to_list (step_along (i, (p, q)))
    → new ≡ filter_map step_along (take (i + 1) (enumerate_from 0 (steps_round path)))
numbered_more path i j p q now new hi hj next ep eq was is =
    let at_p = slice_get_read path (length path) i p refl hi ep in
    let at_q = slice_get_read path (length path) j q refl hj eq in
    let at = steps_at path i p q at_p (ap (slice_get path) (sym next) ∙ at_q) in
    let here = numbered_get (steps_round path) i (p, q) at in
    let inside = slice_get_within (enumerate_from 0 (steps_round path)) i (i, (p, q)) here in
    let item = get_or_from_slice_get (enumerate_from 0 (steps_round path)) i (i, (p, q)) (i, (p, q)) here in
    given_step step_along (enumerate_from 0 (steps_round path)) i (i, (p, q)) now new inside (sym item) was is

pub numbered_all : (path : List Loc) (i : ℕ) (now : List StepAlong) → length path ≤ i → now ≡ filter_map step_along (take i (enumerate_from 0 (steps_round path))) → now ≡ steps_along path
numbered_all path i now h was =
    let short = zip_short path (drop 1 path ++ take 1 path) in
    let long = length-enumerate_from 0 (steps_round path) in
    was ∙ ap (filter_map step_along) (take_all i (enumerate_from 0 (steps_round path)) (omega (arith, h, short, long)))

-- the places of the steps are within the line
pub places_inside : (path : List Loc) (steps : List StepAlong) → AreStepsAlong path steps → All (λ (t : StepAlong). t.place < length path) steps
places_inside path steps are k d h = by (step_out path steps are (get_or steps k d) (Contains-get_or steps k d h))
  where
    zero_less : (a : ℕ × (Loc × Loc)) (c : Contains (enumerate_from 0 (steps_round path)) a) → a.0 ≡ c.0
    zero_less a (i, h, e) =
        let long = length-enumerate_from 0 (steps_round path) in
        let at = sym e ∙ get_or-enumerate_from 0 (steps_round path) i a (omega (arith, h)) in
        let none : 0 + i ≡ i = omega arith in
        ap (λ (b : ℕ × (Loc × Loc)). b.0) at ∙ none

    by : Numbered path steps are (get_or steps k d) → (get_or steps k d).place < length path
    by n =
        let c = n.member in
        let long = length-enumerate_from 0 (steps_round path) in
        let short = zip_short path (drop 1 path ++ take 1 path) in
        let at : n.item.0 ≡ c.0 = zero_less n.item c in
        let e = n.place in
        omega (arith, c.1, long, short)

-- ---- what all conflicts reach

told_any : (n k : ℕ) (steps : List StepAlong) (segs : List Seg) (conflicts : List Places) (pairs : List Pair) → map (pair_at segs) conflicts ≡ map (λ (p : Pair). Some p) pairs
    → list_any (λ places. told_cuts_out n k steps (pair_at segs places)) conflicts ≡ list_any (pair_cuts_out n k steps) pairs
told_any n k steps segs conflicts pairs e = mapped conflicts ∙ (ap (list_any (told_cuts_out n k steps)) e ∙ some pairs)
  where
    mapped : (ps : List Places) → list_any (λ places. told_cuts_out n k steps (pair_at segs places)) ps ≡ list_any (told_cuts_out n k steps) (map (pair_at segs) ps)
    mapped [] = refl
    mapped (p ∷ ps) = ap (λ b. told_cuts_out n k steps (pair_at segs p) || b) (mapped ps)

    some : (ps : List Pair) → list_any (told_cuts_out n k steps) (map (λ (p : Pair). Some p) ps) ≡ list_any (pair_cuts_out n k steps) ps
    some [] = refl
    some (p ∷ ps) = ap (λ b. pair_cuts_out n k steps p || b) (some ps)

none_reached : (n k : ℕ) → is_reached (replicate {A = ℕ} n 0) k ≡ false
none_reached n k = false_from_ne_true (is_reached (replicate {A = ℕ} n 0) k) (λ e. by (reached_out (replicate {A = ℕ} n 0) k e))
  where
    long : length (replicate {A = ℕ} n 0) ≡ n
    long = length-replicate {A = ℕ} n 0

    far : (i : ℕ) → i < n → LiesWithin (length (replicate {A = ℕ} n 0)) i (get_or (replicate {A = ℕ} n 0) i 0) k → ⊥
    far i h (inl w) = let none : get_or (replicate {A = ℕ} n 0) i 0 ≡ 0 = get_or-replicate n i 0 0 h in let some = w.0 in let most = w.1 in omega arith
    far i h (inr w) = let none : get_or (replicate {A = ℕ} n 0) i 0 ≡ 0 = get_or-replicate n i 0 0 h in let most = w.1 in omega (arith, long)

    by : Reached (replicate {A = ℕ} n 0) k → ⊥
    by r = far r.step (let h = r.inside in omega (arith, long)) r.within

pub reaches_made : SegmentOrderTellsApart → ConflictIsSymmetric → (path : List Loc) (steps : List StepAlong) (segs : List Seg) (conflicts : List Places) (old new : List ℕ) → AreStepsAlong path steps → AreDistinct (segments_round path) segs → AreConflictPlaces segs conflicts
    → old ≡ replicate {A = ℕ} (length path) 0 → length new ≡ length old
    → ((k : ℕ) → k < length old → is_reached new k ≡ (is_reached old k || list_any (λ places. told_cuts_out (length old) k steps (pair_at segs places)) conflicts)) → AreReaches path new
reaches_made exact symmetric path steps segs conflicts old new are once places zeros same made = record { long = same ∙ long; exact = all }
  where
    long : length old ≡ length path
    long = ap length zeros ∙ length-replicate {A = ℕ} (length path) 0

    all : (k : ℕ) → k < length path → is_reached new k ≡ is_cut_out path k
    all k h =
        made k (omega (arith, long))
        ∙ (ap (λ b. b || list_any (λ places. told_cuts_out (length old) k steps (pair_at segs places)) conflicts) (ap (λ (xs : List ℕ). is_reached xs k) zeros ∙ none_reached (length path) k)
        ∙ (ap (λ n. list_any (λ places. told_cuts_out n k steps (pair_at segs places)) conflicts) long ∙ (told_any (length path) k steps segs conflicts (conflicts_of segs) places ∙ sym (cut_by_pairs path steps are exact symmetric segs once k))))

-- ---- locations, one after the other

mark_at : (path : List Loc) (k : ℕ) (p : Loc) (d : Loc × Bool) → k < length path → p ≡ get_or path k p → get_or (marked path) k d ≡ (p, is_cut_out path k)
mark_at path k p d h e =
    let f : ℕ × Loc → Loc × Bool = λ m. (m.1, is_cut_out path m.0) in
    let long = length-enumerate_from 0 path in
    let none : 0 + k ≡ k = omega arith in
    get_or-map f (enumerate_from 0 path) k (k, p) d (omega (arith, long))
    ∙ ap f (get_or-enumerate_from 0 path k (k, p) h ∙ (λ i. (none i, sym e i)))

pub marks_more : (path : List Loc) (reach : List ℕ) (k left : ℕ) (p : Loc) (old new : List (Loc × Bool)) → AreReaches path reach → k < length path → p ≡ get_or path k p → IsCarriedRound reach k left → old ≡ take k (marked path) → new ≡ old ++ (p, nat_lt 0 left) ∷ []
    → new ≡ take (k + 1) (marked path)
marks_more path reach k left p old new are h e c was is =
    let long : length (marked path) ≡ length path = length-map (enumerate_from 0 path) (λ (m : ℕ × Loc). (m.1, is_cut_out path m.0)) ∙ length-enumerate_from 0 path in
    let cut = carried_reaches reach k left (let l = are.long in omega arith) c ∙ are.exact k h in
    is ∙ ((λ i. was i ++ (p, cut i) ∷ []) ∙ (ap (λ m. take k (marked path) ++ m ∷ []) (sym (mark_at path k p (p, is_cut_out path k) h e)) ∙ sym (take_more (marked path) k (p, is_cut_out path k) (omega (arith, long)))))

pub marks_all : (path : List Loc) (k : ℕ) (now : List (Loc × Bool)) → length path ≤ k → now ≡ take k (marked path) → now ≡ marked path
marks_all path k now h was =
    let long : length (marked path) ≡ length path = length-map (enumerate_from 0 path) (λ (m : ℕ × Loc). (m.1, is_cut_out path m.0)) ∙ length-enumerate_from 0 path in
    was ∙ take_all k (marked path) (omega (arith, long))

-- ---- a list whose part is put back

pub put_back : (new old : List ℕ) (n : ℕ) → length new ≡ length old → n ≡ length old → take n (new ++ drop (length new) old) ≡ new
put_back new old n same long = ap (λ (xs : List ℕ). take n (new ++ xs)) (drop_all (length new) old (omega arith)) ∙ (ap (take n) (append-nil new) ∙ take_all n new (omega arith))
