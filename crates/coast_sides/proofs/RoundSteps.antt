-- The steps of a closed line, one after the other.
use Rattle.std.proofs.Common.{◌≡◌, ℕ, zero, suc, ◌+◌, ◌-◌, ◌<◌, ◌≤◌, ◌||◌, Bool, true, false, nat_lt, if◌then◌else◌, List, [], ◌∷◌, ◌++◌, length, drop, take, get_or, None, Some, Option, refl, sym, ap, ◌∙◌, arith, ⊎_elim}
use Rattle.std.specs.List.{filter_map, list_any, slice_get, zip}
use Rattle.std.specs.Option.{option_to_list}
use Rattle.std.proofs.lemmas.Bool.{cases_lt}
use Rattle.std.proofs.lemmas.Bool.Decides.{nat_tests}
use Rattle.std.proofs.lemmas.List.{append_assoc, get_or_append_left, length-drop, length_push, take-append-drop, take_all}
use Rattle.std.proofs.Math.Seq.{get_or-append_seam}
use Rattle.std.proofs.lemmas.List.Folds.{list_any-append, list_any_more}
use Rattle.std.proofs.lemmas.Option.{get_or_from_slice_get, same_Some, slice_get_read, slice_get_within}
use Rattle.osm_lattice.specs.declared.loc.Loc.{Loc}
use Rattle.osm_lattice.specs.declared.seg.Seg.{Seg}
use Rattle.osm_lattice.specs.Seg.{segment_between}
use Rattle.coast_sides.specs.Segments.{segments_round, steps_round}
use Rattle.coast_sides.specs.Water.{pieces}
use Rattle.coast_sides.proofs.ListSteps.{given_step, or_false}

zip_get : (xs ys : List Loc) (i : ℕ) (p q : Loc) → slice_get xs i ≡ Some p → slice_get ys i ≡ Some q → slice_get (zip xs ys) i ≡ Some (p, q)
zip_get [] ys i p q e d = absurd (cc)
zip_get (x ∷ xs) [] i p q e d = absurd (cc)
zip_get (x ∷ xs) (y ∷ ys) zero p q e d = let a = same_Some x p e in let b = same_Some y q d in ap (λ (w : Loc). Some (w, y)) a ∙ ap (λ (w : Loc). Some (p, w)) b
zip_get (x ∷ xs) (y ∷ ys) (suc i) p q e d = zip_get xs ys i p q e d

turned_old : (r : List Loc) (a q : Loc) (i : ℕ) → i < length r → slice_get r i ≡ Some q → slice_get (r ++ a ∷ []) i ≡ Some q
turned_old r a q i l at =
    let long = length_push r a in
    slice_get_read (r ++ a ∷ []) (length (r ++ a ∷ [])) i q refl (omega arith) (sym (get_or_append_left r (a ∷ []) q i l ∙ get_or_from_slice_get r i q q at))

turned_new : (r : List Loc) (a : Loc) (i : ℕ) → i ≡ length r → slice_get (r ++ a ∷ []) i ≡ Some a
turned_new r a i e =
    let long = length_push r a in
    slice_get_read (r ++ a ∷ []) (length (r ++ a ∷ [])) i a refl (omega arith) (sym (ap (λ n. get_or (r ++ a ∷ []) n a) e ∙ get_or-append_seam r a [] a))

pub zip_short : (xs ys : List Loc) → length (zip xs ys) ≤ length xs
zip_short [] ys = omega arith
zip_short (x ∷ xs) [] = omega arith
zip_short (x ∷ xs) (y ∷ ys) = let r = zip_short xs ys in omega arith

abbrev pub after_round : ℕ → ℕ → ℕ
after_round i n = if nat_lt (i + 1) n then i + 1 else 0

pub test_yes : (i n : ℕ) → i < n → nat_lt i n ≡ true
test_yes i n h = grind (arith, nat_tests)

pub test_no : (i n : ℕ) → n ≤ i → nat_lt i n ≡ false
test_no i n h = grind (arith, nat_tests)

pub steps_at : (path : List Loc) (i : ℕ) (p q : Loc) → slice_get path i ≡ Some p → slice_get path (after_round i (length path)) ≡ Some q → slice_get (steps_round path) i ≡ Some (p, q)
steps_at [] i p q e d = absurd (cc)
steps_at (a ∷ r) i p q e d = zip_get (a ∷ r) (r ++ a ∷ []) i p q e next
  where
    next : slice_get (r ++ a ∷ []) i ≡ Some q
    next =
        let inside = slice_get_within (a ∷ r) i p e in
        ⊎_elim
        (λ l. let yes = test_yes (i + 1) (length (a ∷ r)) (omega arith) in
        let at : slice_get (a ∷ r) (i + 1) ≡ Some q = ap (λ b. slice_get (a ∷ r) (if b then i + 1 else 0)) (sym yes) ∙ d in
        let one : suc i ≡ i + 1 = omega arith in
        turned_old r a q i l (ap (slice_get (a ∷ r)) one ∙ at))
        (λ l. let fails = test_no (i + 1) (length (a ∷ r)) (omega arith) in
        turned_new r a i (omega arith) ∙ (ap (λ b. slice_get (a ∷ r) (if b then i + 1 else 0)) (sym fails) ∙ d))
        (cases_lt i (length r))

pub step_more : (path : List Loc) (i j : ℕ) (p q : Loc) (old now new : List Seg) → i < length path → j < length path → j ≡ after_round i (length path) → p ≡ get_or path i p → q ≡ get_or path j q
    → now ≡ old ++ filter_map (λ (step : Loc × Loc). segment_between step.0 step.1) (take i (steps_round path)) → new ≡ now ++ option_to_list (segment_between p q)
    → new ≡ old ++ filter_map (λ (step : Loc × Loc). segment_between step.0 step.1) (take (i + 1) (steps_round path))
step_more path i j p q old now new hi hj next ep eq was is =
    let at_p = slice_get_read path (length path) i p refl hi ep in
    let at_q = slice_get_read path (length path) j q refl hj eq in
    let at = steps_at path i p q at_p (ap (slice_get path) (sym next) ∙ at_q) in
    let inside = slice_get_within (steps_round path) i (p, q) at in
    let step : Loc × Loc = (p, q) in
    let f : Loc × Loc → Option Seg = λ s. segment_between s.0 s.1 in
    let more = sym (given_step f (steps_round path) i step (filter_map f (take i (steps_round path))) _ inside (sym (get_or_from_slice_get (steps_round path) i step step at)) refl refl) in
    is ∙ (ap (λ (ss : List Seg). ss ++ option_to_list (segment_between p q)) was ∙ (append_assoc old (filter_map f (take i (steps_round path))) (option_to_list (segment_between p q)) ∙ ap (λ (ss : List Seg). old ++ ss) (sym more)))

pub steps_all : (path : List Loc) (i : ℕ) (old now : List Seg) → length path ≤ i → now ≡ old ++ filter_map (λ (step : Loc × Loc). segment_between step.0 step.1) (take i (steps_round path)) → now ≡ old ++ segments_round path
steps_all path i old now h was =
    let short = zip_short path (drop 1 path ++ take 1 path) in
    was ∙ ap (λ (ss : List (Loc × Loc)). old ++ filter_map (λ (step : Loc × Loc). segment_between step.0 step.1) ss) (take_all i (steps_round path) (omega arith))

-- ---- a test of the steps, one after the other

pub tested_more : (f : Loc × Loc → Bool) (path : List Loc) (i j : ℕ) (p q : Loc) (b : Bool) → i < length path → j < length path → j ≡ after_round i (length path) → p ≡ get_or path i p → q ≡ get_or path j q
    → f (p, q) ≡ b → list_any f (take i (steps_round path)) ≡ false → list_any f (take (i + 1) (steps_round path)) ≡ b
tested_more f path i j p q b hi hj next ep eq is none =
    let at_p = slice_get_read path (length path) i p refl hi ep in
    let at_q = slice_get_read path (length path) j q refl hj eq in
    let at = steps_at path i p q at_p (ap (slice_get path) (sym next) ∙ at_q) in
    let inside = slice_get_within (steps_round path) i (p, q) at in
    let step : Loc × Loc = (p, q) in
    let here = get_or_from_slice_get (steps_round path) i step step at in
    list_any_more f (steps_round path) i step inside ∙ (ap (λ (c : Bool). c || f (get_or (steps_round path) i step)) none ∙ (ap f here ∙ is))

pub tested_front : (f : Loc × Loc → Bool) (path : List Loc) (i : ℕ) → list_any f (take i (steps_round path)) ≡ true → list_any f (steps_round path) ≡ true
tested_front f path i h =
    let split = sym (take-append-drop i (steps_round path)) in
    ap (list_any f) split ∙ (list_any-append f (take i (steps_round path)) (drop i (steps_round path)) ∙ ap (λ b. b || list_any f (drop i (steps_round path))) h)

pub tested_all : (f : Loc × Loc → Bool) (path : List Loc) (i : ℕ) → length path ≤ i → list_any f (take i (steps_round path)) ≡ false → list_any f (steps_round path) ≡ false
tested_all f path i h none =
    let short = zip_short path (drop 1 path ++ take 1 path) in
    ap (list_any f) (sym (take_all i (steps_round path) (omega arith))) ∙ none

-- the segment of a step passes, if it has one
abbrev pub passes_by : (Seg → Bool) → Loc × Loc → Bool
passes_by p step = list_any p (option_to_list (segment_between step.0 step.1))

any_given : (p : Seg → Bool) (steps : List (Loc × Loc)) → list_any p (filter_map (λ (step : Loc × Loc). segment_between step.0 step.1) steps) ≡ list_any (passes_by p) steps
any_given p [] = refl
any_given p (step ∷ steps) = by (any_given p steps) (segment_between step.0 step.1) refl
  where
    rest : List Seg
    rest = filter_map (λ (s : Loc × Loc). segment_between s.0 s.1) steps

    by : list_any p rest ≡ list_any (passes_by p) steps → (o : Option Seg) → segment_between step.0 step.1 ≡ o →
        list_any p (filter_map (λ (s : Loc × Loc). segment_between s.0 s.1) (step ∷ steps)) ≡ list_any (passes_by p) (step ∷ steps)
    by more None e = rw e more
    by more (Some seg) e = rw e (ap (λ b. p seg || b) more ∙ ap (λ b. b || list_any (passes_by p) steps) (sym (or_false (p seg))))

-- some segment of a closed line passes exactly if that of a step does
pub passes_along : (p : Seg → Bool) (path : List Loc) → list_any p (segments_round path) ≡ list_any (passes_by p) (steps_round path)
passes_along p path = any_given p (steps_round path)

-- ---- the pieces of a side, one after the other

drop_get : (xs : List Loc) (i : ℕ) → slice_get (drop 1 xs) i ≡ slice_get xs (suc i)
drop_get [] i = refl
drop_get (x ∷ xs) i = refl

pub piece_more : (nodes : List Loc) (i : ℕ) (p q : Loc) (old now new : List Seg) → i + 1 < length nodes → p ≡ get_or nodes i p → q ≡ get_or nodes (i + 1) q
    → now ≡ old ++ filter_map (λ (step : Loc × Loc). segment_between step.0 step.1) (take i (zip nodes (drop 1 nodes))) → new ≡ now ++ option_to_list (segment_between p q)
    → new ≡ old ++ filter_map (λ (step : Loc × Loc). segment_between step.0 step.1) (take (i + 1) (zip nodes (drop 1 nodes)))
piece_more nodes i p q old now new h ep eq was is =
    let at_p = slice_get_read nodes (length nodes) i p refl (omega arith) ep in
    let at_q = slice_get_read nodes (length nodes) (i + 1) q refl h eq in
    let one : suc i ≡ i + 1 = omega arith in
    let steps : List (Loc × Loc) = zip nodes (drop 1 nodes) in
    let at = zip_get nodes (drop 1 nodes) i p q at_p (drop_get nodes i ∙ (ap (slice_get nodes) one ∙ at_q)) in
    let inside = slice_get_within steps i (p, q) at in
    let step : Loc × Loc = (p, q) in
    let f : Loc × Loc → Option Seg = λ s. segment_between s.0 s.1 in
    let more = sym (given_step f steps i step (filter_map f (take i steps)) _ inside (sym (get_or_from_slice_get steps i step step at)) refl refl) in
    is ∙ (ap (λ (ss : List Seg). ss ++ option_to_list (segment_between p q)) was ∙ (append_assoc old (filter_map f (take i steps)) (option_to_list (segment_between p q)) ∙ ap (λ (ss : List Seg). old ++ ss) (sym more)))

zip_shorter : (xs ys : List Loc) → length (zip xs ys) ≤ length ys
zip_shorter [] ys = omega arith
zip_shorter (x ∷ xs) [] = omega arith
zip_shorter (x ∷ xs) (y ∷ ys) = let r = zip_shorter xs ys in omega arith

pub pieces_all : (nodes : List Loc) (i : ℕ) (old now : List Seg) → length nodes - 1 ≤ i → now ≡ old ++ filter_map (λ (step : Loc × Loc). segment_between step.0 step.1) (take i (zip nodes (drop 1 nodes))) → now ≡ old ++ pieces nodes
pieces_all nodes i old now h was =
    let short = zip_shorter nodes (drop 1 nodes) in
    let dropped = length-drop 1 nodes in
    was ∙ ap (λ (ss : List (Loc × Loc)). old ++ filter_map (λ (step : Loc × Loc). segment_between step.0 step.1) ss) (take_all i (zip nodes (drop 1 nodes)) (omega arith))
