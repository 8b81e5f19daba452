-- Which segments of a status pass through a location at its height: those before the first that is right of it, down to one that is left of it.
use Rattle.std.proofs.Common.{Bool, List, [], ap, arith, cond, count_by, eq-or-lt_of_le, false, get_or, length, nat_lt, not, refl, subst, suc, sym, true, zero, ℕ, ⊎_elim, ◌&&◌, ◌+◌, ◌-◌, ◌<◌, ◌||◌, ◌∙◌, ◌∷◌, ◌≡◌, ◌≤◌}
use Rattle.std.specs.List.{AllWithin, filter}
use Rattle.std.proofs.lemmas.Bool.{and_right, cases_lt, lt-ltb, ltb-true}
use Rattle.plane.specs.Edge.{Edge}
use Rattle.plane.specs.Height.{distance_right, is_in_span}
use Rattle.plane.specs.Sign.{Minus, Null, Plus, Sign, is_minus, is_null, is_plus, sign, then_sign}
use Rattle.plane.specs.Vector.{Vector, cross, from_to, orient}
use Rattle.plane.proofs.PlaneKit.{cross-agree, orient-round, right_of, step_of, tall-by}
use Rattle.plane.proofs.SignKit.{agree, all, all-out, all2-out, imp, imp-out, times}
use Rattle.lists.proofs.ListsKit.{and-left, and-right, count_by-cons, in-passes}
use Rattle.plane_lists.specs.Statuses.Status.{IsStatus}
use Rattle.plane_lists.proofs.StatusKit.{counts}
use Rattle.plane_lists.proofs.WindingKit.{left-span}
use Rattle.osm_lattice.specs.declared.loc.Loc.{Loc}
use Rattle.osm_lattice.specs.declared.seg.Seg.{Seg}
use Rattle.osm_lattice.specs.Line.{is_right_of_line, side_of_line}
use Rattle.osm_lattice.specs.Loc.{vector_of}
use Rattle.osm_lattice.specs.Seg.{edge_of}
use Rattle.osm_sides.specs.PointPlaces.{lies_on, on_count}
use Rattle.osm_sides.specs.PointSteps.{is_level_on, passes_through}
use Rattle.osm_sides.specs.SideTests.{left_of, span}
use Rattle.osm_sides.proofs.LevelParts.{on_parts}

-- ---- what is left of an edge that is left of a point is left of it
abbrev keeps_left : Sign → Sign → Bool
keeps_left k l =
    all λ a. all λ b. imp (agree k (times a Plus) (times Plus b)) λ _. imp (is_plus (then_sign k l)) λ _. imp (is_minus b) λ _. is_minus a

left_kept : (p : Vector) (e f : Edge) → is_in_span p e ≡ true → is_in_span p f ≡ true → right_of p e f ≡ true → is_minus (orient f.from f.to p) ≡ true → is_minus (orient e.from e.to p) ≡ true
left_kept p e f se sf r h =
    let k = sign (cross (distance_right p e) (distance_right p f)) in let l = sign (cross (step_of f) (step_of e)) in
    let a = sign (cross (from_to p e.from) (from_to p e.to)) in let b = sign (cross (from_to p f.from) (from_to p f.to)) in
    let seen = rw (tall-by p e se, tall-by p f sf) at (cross-agree (distance_right p e) (distance_right p f)) in
    let c = all-out (λ b. imp (agree k (times a Plus) (times Plus b)) λ _. imp (is_plus (then_sign k l)) λ _. imp (is_minus b) λ _. is_minus a)
    (all-out (λ a. all λ b. imp (agree k (times a Plus) (times Plus b)) λ _. imp (is_plus (then_sign k l)) λ _. imp (is_minus b) λ _. is_minus a) (all2-out keeps_left refl k l) a) b in
    let m : is_minus b ≡ true = ap (λ z. is_minus (sign z)) (sym (orient-round p f.from f.to)) ∙ h in
    ap (λ z. is_minus (sign z)) (orient-round p e.from e.to) ∙ imp-out _ _ (imp-out _ _ (imp-out _ _ c seen) r) m

-- ---- counts
none_count : {X : Type 0} (q : X → Bool) (xs : List X) → AllWithin (λ x. q x ≡ false) xs 0 (length xs) → count_by q xs ≡ 0
none_count q [] none = refl
none_count q (x ∷ xs) none =
    let a = count_by-cons q x xs ∙ ap (λ b. cond {A = ℕ} b 1 0 + count_by q xs) (none 0 x (omega arith) (omega arith)) in
    let b = none_count q xs (λ k d h l. none (suc k) d (omega arith) (omega arith)) in omega (arith, a, b)

some_count : {X : Type 0} (q : X → Bool) (xs : List X) (i : ℕ) (d : X) → i < length xs → q (get_or xs i d) ≡ true → 0 < count_by q xs
some_count q [] i d l h = absurd (omega arith)
some_count q (x ∷ xs) zero d l h = let a = count_by-cons q x xs ∙ ap (λ b. cond {A = ℕ} b 1 0 + count_by q xs) h in omega (arith, a)
some_count q (x ∷ xs) (suc i) d l h = let a = count_by-cons q x xs in let b = some_count q xs i d (omega arith) h in omega (arith, a, b)

module _ (p : Loc) (segs status : List Seg) (is : IsStatus edge_of (vector_of p) segs status) where
  spans : (k : ℕ) (d : Seg) → k < length status → is_in_span (vector_of p) (edge_of (get_or status k d)) ≡ true
  spans k d h = in-passes (λ (t : Seg). is_in_span (vector_of p) (edge_of t)) segs (get_or status k d) (is.members k d h)

  right-not : (t : Seg) → is_right_of_line p t ≡ true → passes_through p t ≡ false
  unfolding is_right_of_line span
  right-not t h = by (side_of_line p t) h
    where
      by : (s : Sign) → is_minus s ≡ true → (is_in_span (vector_of p) (edge_of t) && is_null s) ≡ false
      by Minus h = and_right (is_in_span (vector_of p) (edge_of t)) false refl
      by Null h = absurd (cc h)
      by Plus h = absurd (cc h)

  left-not : (t : Seg) → left_of p t ≡ true → passes_through p t ≡ false
  unfolding left_of span
  left-not t h = by (side_of_line p t) (and-right (is_in_span (vector_of p) (edge_of t)) (is_plus (side_of_line p t)) h)
    where
      by : (s : Sign) → is_plus s ≡ true → (is_in_span (vector_of p) (edge_of t) && is_null s) ≡ false
      by Plus h = and_right (is_in_span (vector_of p) (edge_of t)) false refl
      by Null h = absurd (cc h)
      by Minus h = absurd (cc h)

  right-before : (i j : ℕ) (d : Seg) → i ≤ j → j < length status → is_right_of_line p (get_or status j d) ≡ true → is_right_of_line p (get_or status i d) ≡ true
  unfolding is_right_of_line
  right-before i j d h l r = ⊎_elim
      (λ (here : i ≡ j). subst (λ k. is_right_of_line p (get_or status k d) ≡ true) (sym here) r)
      (λ (low : i < j). left_kept (vector_of p) (edge_of (get_or status i d)) (edge_of (get_or status j d)) (spans i d (omega arith)) (spans j d l) (is.order i j d low l) r)
      (eq-or-lt_of_le h)

  through : (t : Seg) → is_in_span (vector_of p) (edge_of t) ≡ true → left_of p t ≡ false → is_right_of_line p t ≡ false → passes_through p t ≡ true
  unfolding left_of span is_right_of_line
  through t s l r = by (is_in_span (vector_of p) (edge_of t)) (side_of_line p t) s l r
    where
      by : (b : Bool) (k : Sign) → b ≡ true → (b && is_plus k) ≡ false → is_minus k ≡ false → (b && is_null k) ≡ true
      by true Null s l r = refl
      by true Plus s l r = absurd (cc l)
      by true Minus s l r = absurd (cc r)
      by false k s l r = absurd (cc s)

  -- the status counts as all segments do
  left-spans : (t : Seg) → left_of p t ≡ true → is_in_span (vector_of p) (edge_of t) ≡ true
  unfolding left_of
  left-spans t h = left-span (vector_of p) (edge_of t) h

  pub left_counted : count_by (left_of p) status ≡ count_by (left_of p) segs
  left_counted = counts edge_of (vector_of p) segs status is (left_of p) left-spans

  through-spans : (t : Seg) → passes_through p t ≡ true → is_in_span (vector_of p) (edge_of t) ≡ true
  unfolding span
  through-spans t h = and-left (is_in_span (vector_of p) (edge_of t)) (is_null (side_of_line p t)) h

  pub passing_counted : count_by (passes_through p) status ≡ count_by (passes_through p) segs
  passing_counted = counts edge_of (vector_of p) segs status is (passes_through p) through-spans

  module _ (from : ℕ) (within : from ≤ length status) (before : AllWithin (λ t. left_of p t ≡ false) status 0 from) (after : AllWithin (λ t. left_of p t ≡ true) status from (length status)) where
    pub none_passes : ((d : Seg) → 0 < from → is_right_of_line p (get_or status (from - 1) d) ≡ true) → count_by (passes_through p) status ≡ 0
    none_passes right = none_count (passes_through p) status each
      where
        each : AllWithin (λ t. passes_through p t ≡ false) status 0 (length status)
        each k d h l = ⊎_elim
            (λ (low : k < from). right-not (get_or status k d) (right-before k (from - 1) d (omega arith) (omega arith) (right d (omega arith))))
            (λ (high : from ≤ k). left-not (get_or status k d) (after k d high l))
            (cases_lt k from)

    pub one_passes : (d : Seg) → 0 < from → is_right_of_line p (get_or status (from - 1) d) ≡ false → 0 < count_by (passes_through p) status
    one_passes d some beside = some_count (passes_through p) status (from - 1) d (omega arith) (through (get_or status (from - 1) d) (spans (from - 1) d (omega arith)) (before (from - 1) d (omega arith) (omega arith)) beside)

-- ---- what the last one tells that isn't right of the location
pub told_none : (n : ℕ) → n ≡ 0 → nat_lt 0 n ≡ false
told_none n e = ap (nat_lt 0) e

pub told_some : (n : ℕ) → 0 < n → nat_lt 0 n ≡ true
told_some n h = lt-ltb 0 n h

module _ (p : Loc) (segs status : List Seg) (is : IsStatus edge_of (vector_of p) segs status) (from : ℕ) (within : from ≤ length status)
    (before : AllWithin (λ t. left_of p t ≡ false) status 0 from) (after : AllWithin (λ t. left_of p t ≡ true) status from (length status)) where
  pub told_last : (t : Seg) → ((d : Seg) → t ≡ get_or status (from - 1) d) → nat_lt 0 from ≡ true → (b : Bool) → b ≡ is_right_of_line p t → not b ≡ nat_lt 0 (count_by (passes_through p) status)
  told_last t at some true h =
      sym (told_none _ (none_passes p segs status is from within before after (λ d l. ap (is_right_of_line p) (sym (at d)) ∙ sym h)))
  told_last t at some false h =
      sym (told_some _ (one_passes p segs status is from within before after t (ltb-true 0 from some) (ap (is_right_of_line p) (sym (at t)) ∙ sym h)))

-- ---- segments that have the location on them
some_of : (a b n : ℕ) (l k : Bool) → nat_lt 0 a ≡ l → nat_lt 0 b ≡ k → (0 < n → 0 < a + b) → (0 < a + b → 0 < n) → nat_lt 0 n ≡ (l || k)
some_of a b n l k h g up down = grind arith

on_counts : (p : Loc) (segs : List Seg) → (0 < on_count p segs → 0 < count_by (passes_through p) segs + count_by (is_level_on p) segs) × (0 < count_by (passes_through p) segs + count_by (is_level_on p) segs → 0 < on_count p segs)
on_counts p [] = ((λ h. absurd (omega arith)), (λ h. absurd (omega arith)))
on_counts p (s ∷ segs) =
    let a = count_by-cons (lies_on p) s segs in let b = count_by-cons (passes_through p) s segs in let c = count_by-cons (is_level_on p) s segs in
    let rest = on_counts p segs in
    by (lies_on p s) (passes_through p s) (is_level_on p s) (on_parts p s) a b c rest
  where
    by : (x y z : Bool) → x ≡ (y || z) → on_count p (s ∷ segs) ≡ cond {A = ℕ} x 1 0 + on_count p segs → count_by (passes_through p) (s ∷ segs) ≡ cond {A = ℕ} y 1 0 + count_by (passes_through p) segs →
        count_by (is_level_on p) (s ∷ segs) ≡ cond {A = ℕ} z 1 0 + count_by (is_level_on p) segs →
        (0 < on_count p segs → 0 < count_by (passes_through p) segs + count_by (is_level_on p) segs) × (0 < count_by (passes_through p) segs + count_by (is_level_on p) segs → 0 < on_count p segs) →
        (0 < on_count p (s ∷ segs) → 0 < count_by (passes_through p) (s ∷ segs) + count_by (is_level_on p) (s ∷ segs)) × (0 < count_by (passes_through p) (s ∷ segs) + count_by (is_level_on p) (s ∷ segs) → 0 < on_count p (s ∷ segs))
    by true true z e a b c rest = ((λ h. omega (arith, b)), (λ h. omega (arith, a)))
    by true false true e a b c rest = ((λ h. omega (arith, c)), (λ h. omega (arith, a)))
    by true false false e a b c rest = absurd (cc e)
    by false true z e a b c rest = absurd (cc e)
    by false false true e a b c rest = absurd (cc e)
    by false false false e a b c rest = ((λ h. let r = rest.0 (omega (arith, a, h)) in omega (arith, b, c, r)), (λ h. let r = rest.1 (omega (arith, b, c, h)) in omega (arith, a, r)))

pub on_told : (p : Loc) (segs : List Seg) (l k : Bool) → l ≡ nat_lt 0 (count_by (is_level_on p) segs) → k ≡ nat_lt 0 (count_by (passes_through p) segs) → nat_lt 0 (on_count p segs) ≡ (l || k)
on_told p segs l k h g =
    let both = on_counts p segs in
    some_of (count_by (is_level_on p) segs) (count_by (passes_through p) segs) (on_count p segs) l k (sym h) (sym g) (λ n. let r = both.0 n in omega (arith, r)) (λ n. both.1 (omega (arith, n)))
