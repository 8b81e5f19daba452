-- The runs that are cut out, told by the places of the locations that remain.
use Rattle.std.proofs.Common.{◌≡◌, ⊎_elim, ℕ, ℤ, zero, suc, ◌+◌, ◌-◌, ◌<◌, ◌≤◌, Bool, true, false, not, if◌then◌else◌, List, [], ◌∷◌, ◌++◌, Option, Some, None, drop, filter, get_or, length, map, option_map, take, refl, sym, ap, ◌∙◌, arith}
use Rattle.std.specs.List.{cons_option, enumerate_from, filter_map, slice_get}
use Rattle.std.specs.Option.{option_to_list}
use Rattle.std.specs.Prelude.{nat_lt}
use Rattle.std.proofs.lemmas.Bool.{cases_lt, cond-false, cond-true, le-ltb, lt-ltb, not-false}
use Rattle.std.proofs.lemmas.List.{append_assoc, drop_all, get_or-map, length-map, map-append, take_all}
use Rattle.std.proofs.lemmas.List.Elements.{filter-append}
use Rattle.std.proofs.lemmas.Option.{get_or_from_slice_get, slice_get-get_or, slice_get-map, slice_get_within}
use Rattle.osm_lattice.specs.declared.loc.Loc.{Loc}
use Rattle.coast_sides.specs.Shortcuts.{first_left, remaining, run_at, run_from, runs}
use Rattle.coast_sides.specs.ShortcutSteps.{cuts_of, place_after, places_left, run_to}
use Rattle.coast_sides.specs.declared.cut.Cut.{Cut}
use Rattle.coast_rings.specs.Line.{origin}
use Rattle.coast_sides.proofs.ListSteps.{given_step, named_step}
use Rattle.std.proofs.lemmas.List.FromFn.{get_or-enumerate_from, length-enumerate_from}

-- those that remain, each with its place
abbrev pub numbered_left : ℕ → List (Loc × Bool) → List (ℕ × (Loc × Bool))
numbered_left n marks = filter (λ m. not m.1.1) (enumerate_from n marks)

-- ---- what stands where

-- the i-th that remains, and what remains before and behind it
record Parts (n : ℕ) (marks : List (Loc × Bool)) (i : ℕ) (x : ℕ × (Loc × Bool)) : Type 0 where
  pub from : n ≤ x.0
  pub at : slice_get marks (x.0 - n) ≡ Some x.1
  pub left : x.1.1 ≡ false
  pub front : remaining (take (suc x.0 - n) marks) ≡ take (suc i) (remaining marks)
  pub back : remaining (drop (suc x.0 - n) marks) ≡ drop (suc i) (remaining marks)

one_on : (n k : ℕ) → n + 1 ≤ k → suc k - n ≡ suc (suc k - (n + 1))
one_on n k h = omega arith

one_before : (n k : ℕ) → n + 1 ≤ k → k - n ≡ suc (k - (n + 1))
one_before n k h = omega arith

cut_first : (n : ℕ) (p : Loc) (marks : List (Loc × Bool)) (i : ℕ) (x : ℕ × (Loc × Bool)) → Parts (n + 1) marks i x → Parts n ((p, true) ∷ marks) i x
cut_first n p marks i x r =
    let h = r.from in
    let front = ap (λ k. remaining (take k ((p, true) ∷ marks))) (one_on n x.0 h) in
    let back = ap (λ k. remaining (drop k ((p, true) ∷ marks))) (one_on n x.0 h) in
    record { from = omega arith; at = ap (slice_get ((p, true) ∷ marks)) (one_before n x.0 h) ∙ r.at; left = r.left; front = front ∙ r.front; back = back ∙ r.back }

left_first : (n : ℕ) (p : Loc) (marks : List (Loc × Bool)) (i : ℕ) (x : ℕ × (Loc × Bool)) → Parts (n + 1) marks i x → Parts n ((p, false) ∷ marks) (suc i) x
left_first n p marks i x r =
    let h = r.from in
    let front = ap (λ k. remaining (take k ((p, false) ∷ marks))) (one_on n x.0 h) in
    let back = ap (λ k. remaining (drop k ((p, false) ∷ marks))) (one_on n x.0 h) in
    record { from = omega arith; at = ap (slice_get ((p, false) ∷ marks)) (one_before n x.0 h) ∙ r.at; left = r.left; front = front ∙ ap (λ (ps : List Loc). p ∷ ps) r.front; back = back ∙ r.back }

here : (n : ℕ) (p : Loc) (marks : List (Loc × Bool)) (x : ℕ × (Loc × Bool)) → (n, (p, false)) ≡ x → Parts n ((p, false) ∷ marks) 0 x
here n p marks x e =
    let place : n ≡ x.0 = ap (λ (y : ℕ × (Loc × Bool)). y.0) e in
    let none : x.0 - n ≡ 0 = omega arith in
    let one : suc x.0 - n ≡ 1 = omega arith in
    record {
      from = omega arith;
      at = ap (slice_get ((p, false) ∷ marks)) none ∙ ap (λ (y : ℕ × (Loc × Bool)). Some y.1) e;
      left = ap (λ (y : ℕ × (Loc × Bool)). y.1.1) (sym e);
      front = ap (λ k. remaining (take k ((p, false) ∷ marks))) one;
      back = ap (λ k. remaining (drop k ((p, false) ∷ marks))) one;
    }

parts : (n : ℕ) (marks : List (Loc × Bool)) (i : ℕ) (x : ℕ × (Loc × Bool)) → slice_get (numbered_left n marks) i ≡ Some x → Parts n marks i x
parts n [] i x e = absurd (cc e)
parts n ((p, true) ∷ marks) i x e = cut_first n p marks i x (parts (n + 1) marks i x e)
parts n ((p, false) ∷ marks) zero x e = here n p marks x (cc e)
parts n ((p, false) ∷ marks) (suc i) x e = left_first n p marks i x (parts (n + 1) marks i x e)

-- ---- the first that remains

first_is : (marks : List (Loc × Bool)) → first_left marks ≡ slice_get (remaining marks) 0
first_is [] = refl
first_is ((p, true) ∷ marks) = first_is marks
first_is ((p, false) ∷ marks) = refl

run_is : (p : Loc) (m : Loc × Bool) (turned : List (Loc × Bool)) → slice_get turned 0 ≡ Some m → run_from p turned ≡ (if m.1 then option_map (λ q. (p, q)) (slice_get (remaining turned) 0) else None)
run_is p m [] e = absurd (cc e)
run_is p m ((q, true) ∷ marks) e = let same : (q, true) ≡ m = cc e in ap (option_map (λ q. (p, q))) (first_is marks) ∙ sym (cond-true m.1 (option_map (λ q. (p, q)) (slice_get (remaining marks) 0)) None (ap (λ (y : Loc × Bool). y.1) (sym same)))
run_is p m ((q, false) ∷ marks) e = let same : (q, false) ≡ m = cc e in sym (cond-false m.1 (option_map (λ r. (p, r)) (Some q)) None (ap (λ (y : Loc × Bool). y.1) (sym same)))

module _ {X : Type 0} where
  drop_head : (k : ℕ) (xs : List X) → slice_get (drop k xs) 0 ≡ slice_get xs k
  drop_head zero [] = refl
  drop_head zero (x ∷ xs) = refl
  drop_head (suc k) [] = refl
  drop_head (suc k) (x ∷ xs) = drop_head k xs

  head_left : (xs ys : List X) (x : X) → slice_get xs 0 ≡ Some x → slice_get (xs ++ ys) 0 ≡ Some x
  head_left [] ys x e = absurd (cc e)
  head_left (y ∷ xs) ys x e = e

  -- what stands first, once a list is begun behind a place
  turned_head : (xs : List X) (k : ℕ) (x : X) → slice_get xs (place_after (length xs) k) ≡ Some x → slice_get (drop (suc k) xs ++ take (suc k) xs) 0 ≡ Some x
  turned_head xs k x e = ⊎_elim
      (λ (l : k + 1 < length xs).
      let at = ap (λ b. slice_get xs (if b then k + 1 else 0)) (sym (lt-ltb (k + 1) (length xs) l)) in
      let one : suc k ≡ k + 1 = omega arith in
      head_left (drop (suc k) xs) (take (suc k) xs) x (drop_head (suc k) xs ∙ (ap (slice_get xs) one ∙ (at ∙ e))))
      (λ (l : length xs ≤ k + 1).
      let at = ap (λ b. slice_get xs (if b then k + 1 else 0)) (sym (le-ltb (k + 1) (length xs) l)) in
      ap (λ (ys : List X). slice_get (ys ++ take (suc k) xs) 0) (drop_all (suc k) xs (omega arith)) ∙ (ap (λ (ys : List X). slice_get ys 0) (take_all (suc k) xs (omega arith)) ∙ (at ∙ e)))
      (cases_lt (k + 1) (length xs))

remaining-append : (a b : List (Loc × Bool)) → remaining (a ++ b) ≡ remaining a ++ remaining b
remaining-append a b = ap (map (λ (m : Loc × Bool). m.0)) (filter-append (λ (m : Loc × Bool). not m.1) a b) ∙ map-append (λ (m : Loc × Bool). m.0) (filter (λ (m : Loc × Bool). not m.1) a) (filter (λ (m : Loc × Bool). not m.1) b)

remaining_are : (n : ℕ) (marks : List (Loc × Bool)) → remaining marks ≡ map (λ (x : ℕ × (Loc × Bool)). x.1.0) (numbered_left n marks)
remaining_are n [] = refl
remaining_are n ((p, true) ∷ marks) = remaining_are (n + 1) marks
remaining_are n ((p, false) ∷ marks) = ap (λ (ps : List Loc). p ∷ ps) (remaining_are (n + 1) marks)

-- ---- one run

choice : (b : Bool) (r : Loc × Loc) (o : Option (Loc × Loc)) → o ≡ Some r → option_to_list (if b then o else None) ≡ (if b then r ∷ [] else [])
choice true r o e = ap option_to_list e
choice false r o e = refl

module _ (marks : List (Loc × Bool)) (d : Loc × Bool) where
  not_cut : (x : ℕ × (Loc × Bool)) → x.1.1 ≡ false → run_at marks x ≡ run_from x.1.0 (drop (suc x.0) marks ++ take (suc x.0) marks)
  not_cut x e = cond-false x.1.1 None (run_from x.1.0 (drop (suc x.0) marks ++ take (suc x.0) marks)) e

  pub one_run : (i : ℕ) (x y : ℕ × (Loc × Bool)) → slice_get (numbered_left 0 marks) i ≡ Some x → slice_get (numbered_left 0 marks) (place_after (length (numbered_left 0 marks)) i) ≡ Some y
      → option_to_list (run_at marks x) ≡ run_to d marks x.0 y.0
  one_run i x y e f =
      let p = parts 0 marks i x e in
      let q = parts 0 marks (place_after (length (numbered_left 0 marks)) i) y f in
      let turned = drop (suc x.0) marks ++ take (suc x.0) marks in
      let inside = slice_get_within marks x.0 x.1 (at_zero x p) in
      let here = get_or_from_slice_get marks x.0 x.1 d (at_zero x p) in
      let there = get_or_from_slice_get marks y.0 y.1 d (at_zero y q) in
      let m = get_or marks (place_after (length marks) x.0) d in
      let head = turned_head marks x.0 m (slice_get-get_or marks (place_after (length marks) x.0) d (after_inside (length marks) x.0 inside)) in
      let left = remaining_left p in
      let long : length (remaining marks) ≡ length (numbered_left 0 marks) = ap length (remaining_are 0 marks) ∙ length-map (numbered_left 0 marks) (λ (x : ℕ × (Loc × Bool)). x.1.0) in
      let next : slice_get (remaining marks) (place_after (length (remaining marks)) i) ≡ Some y.1.0 =
      ap (λ n. slice_get (remaining marks) (place_after n i)) long
      ∙ (ap (λ (ps : List Loc). slice_get ps (place_after (length (numbered_left 0 marks)) i)) (remaining_are 0 marks)
      ∙ (slice_get-map (λ (x : ℕ × (Loc × Bool)). x.1.0) (numbered_left 0 marks) (place_after (length (numbered_left 0 marks)) i) ∙ ap (option_map (λ (x : ℕ × (Loc × Bool)). x.1.0)) f)) in
      let first : slice_get (remaining turned) 0 ≡ Some y.1.0 = ap (λ (ps : List Loc). slice_get ps 0) left ∙ turned_head (remaining marks) i y.1.0 next in
      ap option_to_list (not_cut x p.left ∙ run_is x.1.0 m turned head)
      ∙ (choice m.1 (x.1.0, y.1.0) (option_map (λ q. (x.1.0, q)) (slice_get (remaining turned) 0)) (ap (option_map (λ q. (x.1.0, q))) first)
      ∙ ap (λ (r : Loc × Loc). if m.1 then r ∷ [] else []) (λ j. ((sym here j).0, (sym there j).0)))
    where
      at_zero : (x : ℕ × (Loc × Bool)) {i : ℕ} → Parts 0 marks i x → slice_get marks x.0 ≡ Some x.1
      at_zero x p = let none : x.0 ≡ x.0 - 0 = omega arith in ap (slice_get marks) none ∙ p.at

      after_inside : (n k : ℕ) → k < n → place_after n k < n
      after_inside n k h = ⊎_elim
          (λ (l : k + 1 < n). let yes = cond-true (nat_lt (k + 1) n) (k + 1) 0 (lt-ltb (k + 1) n l) in omega arith)
          (λ (l : n ≤ k + 1). let fails = cond-false (nat_lt (k + 1) n) (k + 1) 0 (le-ltb (k + 1) n l) in omega arith)
          (cases_lt (k + 1) n)

      remaining_left : Parts 0 marks i x → remaining (drop (suc x.0) marks ++ take (suc x.0) marks) ≡ drop (suc i) (remaining marks) ++ take (suc i) (remaining marks)
      remaining_left p =
          let one : suc x.0 ≡ suc x.0 - 0 = omega arith in
          let a = ap (λ k. remaining (drop k marks)) one ∙ p.back in
          let b = ap (λ k. remaining (take k marks)) one ∙ p.front in
          remaining-append (drop (suc x.0) marks) (take (suc x.0) marks) ∙ (λ j. a j ++ b j)

-- ---- all runs

only_kept : {X Y : Type 0} (f : X → Option Y) (p : X → Bool) (xs : List X) → ((x : X) → p x ≡ false → f x ≡ None) → filter_map f (filter p xs) ≡ filter_map f xs
only_kept f p [] none = refl
only_kept {X} {Y} f p (x ∷ xs) none = by (p x) refl (only_kept f p xs none)
  where
    by : (b : Bool) → p x ≡ b → filter_map f (filter p xs) ≡ filter_map f xs → filter_map f (if b then x ∷ filter p xs else filter p xs) ≡ cons_option (f x) (filter_map f xs)
    by true e r = ap (cons_option (f x)) r
    by false e r = r ∙ ap (λ (o : Option Y). cons_option o (filter_map f xs)) (sym (none x e))

pub all_runs : (marks : List (Loc × Bool)) → filter_map (run_at marks) (numbered_left 0 marks) ≡ runs marks
all_runs marks = only_kept (run_at marks) (λ (x : ℕ × (Loc × Bool)). not x.1.1) (enumerate_from 0 marks) (λ x e. cut x (not-false x.1.1 e))
  where
    cut : (x : ℕ × (Loc × Bool)) → x.1.1 ≡ true → run_at marks x ≡ None
    cut x e = cond-true x.1.1 None (run_from x.1.0 (drop (suc x.0) marks ++ take (suc x.0) marks)) e

-- ---- the places of those that remain, one after the other

module _ (marks : List (Loc × Bool)) (left : List ℕ) (are : left ≡ places_left marks) where
  as_many : length left ≡ length (numbered_left 0 marks)
  as_many = ap length are ∙ length-map (numbered_left 0 marks) (λ (x : ℕ × (Loc × Bool)). x.0)

  -- the i-th of those that remain
  there : (i : ℕ) → i < length left → (x : ℕ × (Loc × Bool)) × (slice_get (numbered_left 0 marks) i ≡ Some x) × (x.0 ≡ get_or left i 0)
  there i h =
      let d : ℕ × (Loc × Bool) = (0, (origin, false)) in
      let x = get_or (numbered_left 0 marks) i d in
      let inside : i < length (numbered_left 0 marks) = omega (arith, as_many, h) in
      let place = get_or-map (λ (x : ℕ × (Loc × Bool)). x.0) (numbered_left 0 marks) i d 0 inside in
      (x, slice_get-get_or (numbered_left 0 marks) i d inside, sym place ∙ ap (λ (ps : List ℕ). get_or ps i 0) (sym are))

  pub left_inside : (i : ℕ) → i < length left → get_or left i 0 < length marks
  left_inside i h =
      let t = there i h in
      let p = parts 0 marks i t.0 t.1 in
      let inside = slice_get_within marks (t.0.0 - 0) t.0.1 p.at in
      let same = t.2 in
      omega arith

  pub runs_more : (d : Loc × Bool) (ring : ℤ) (i next : ℕ) (first now new : List Cut) → i < length left → next < length left → next ≡ place_after (length left) i → now ≡ first ++ cuts_of ring (filter_map (run_at marks) (take i (numbered_left 0 marks)))
      → new ≡ now ++ cuts_of ring (run_to d marks (get_or left i 0) (get_or left next 0)) → new ≡ first ++ cuts_of ring (filter_map (run_at marks) (take (i + 1) (numbered_left 0 marks)))
  runs_more d ring i next first now new h l after was is =
      let told : Loc × Loc → Cut = λ run. record { ring = ring; from = run.0; to = run.1 } in
      let f = numbered_left 0 marks in
      let x = there i h in
      let y = there next l in
      let at = ap (slice_get f) (ap (λ n. place_after n i) (sym as_many) ∙ sym after) ∙ y.1 in
      let run : option_to_list (run_at marks x.0) ≡ run_to d marks (get_or left i 0) (get_or left next 0) = one_run marks d i x.0 y.0 x.1 at ∙ (λ j. run_to d marks (x.2 j) (y.2 j)) in
      let more = given_step (run_at marks) f i x.0 (filter_map (run_at marks) (take i f)) (filter_map (run_at marks) (take i f) ++ option_to_list (run_at marks x.0)) (slice_get_within f i x.0 x.1) (sym (get_or_from_slice_get f i x.0 x.0 x.1)) refl refl in
      is
      ∙ (ap (λ (cs : List Cut). cs ++ cuts_of ring (run_to d marks (get_or left i 0) (get_or left next 0))) was
      ∙ (append_assoc first (cuts_of ring (filter_map (run_at marks) (take i f))) (cuts_of ring (run_to d marks (get_or left i 0) (get_or left next 0)))
      ∙ ap (λ (cs : List Cut). first ++ cs)
      (sym (map-append told (filter_map (run_at marks) (take i f)) (run_to d marks (get_or left i 0) (get_or left next 0)))
      ∙ (ap (λ (rs : List (Loc × Loc)). cuts_of ring (filter_map (run_at marks) (take i f) ++ rs)) (sym run) ∙ ap (cuts_of ring) more))))

  pub runs_all : (ring : ℤ) (i : ℕ) (first now : List Cut) → length left ≤ i → now ≡ first ++ cuts_of ring (filter_map (run_at marks) (take i (numbered_left 0 marks))) → now ≡ first ++ cuts_of ring (runs marks)
  runs_all ring i first now h was =
      was ∙ ap (λ (rs : List (Loc × Loc)). first ++ cuts_of ring rs) (ap (filter_map (run_at marks)) (take_all i (numbered_left 0 marks) (omega (arith, as_many, h))) ∙ all_runs marks)

pub place_more : (marks : List (Loc × Bool)) (i : ℕ) (m : Loc × Bool) (b : Bool) (old new : List ℕ) → i < length marks → m ≡ get_or marks i m → b ≡ not m.1 → old ≡ map (λ (x : ℕ × (Loc × Bool)). x.0) (filter (λ (x : ℕ × (Loc × Bool)). not x.1.1) (take i (enumerate_from 0 marks)))
    → new ≡ old ++ (if b then i ∷ [] else []) → new ≡ map (λ (x : ℕ × (Loc × Bool)). x.0) (filter (λ (x : ℕ × (Loc × Bool)). not x.1.1) (take (i + 1) (enumerate_from 0 marks)))
place_more marks i m b old new h is e was after =
    let x : ℕ × (Loc × Bool) = (i, m) in
    let long = length-enumerate_from 0 marks in
    let none : 0 + i ≡ i = omega arith in
    let at : x ≡ get_or (enumerate_from 0 marks) i x = sym (get_or-enumerate_from 0 marks i x h ∙ (λ j. (none j, sym is j))) in
    named_step (λ (x : ℕ × (Loc × Bool)). x.0) (λ (x : ℕ × (Loc × Bool)). not x.1.1) (enumerate_from 0 marks) i x b old new (omega (arith, h, long)) at e was after

pub place_all : (marks : List (Loc × Bool)) (i : ℕ) (now : List ℕ) → length marks ≤ i → now ≡ map (λ (x : ℕ × (Loc × Bool)). x.0) (filter (λ (x : ℕ × (Loc × Bool)). not x.1.1) (take i (enumerate_from 0 marks))) → now ≡ places_left marks
place_all marks i now h was =
    let long = length-enumerate_from 0 marks in
    was ∙ ap (λ (xs : List (ℕ × (Loc × Bool))). map (λ (x : ℕ × (Loc × Bool)). x.0) (filter (λ (x : ℕ × (Loc × Bool)). not x.1.1) xs)) (take_all i (enumerate_from 0 marks) (omega (arith, h, long)))
