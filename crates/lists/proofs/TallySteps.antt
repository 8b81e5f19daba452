-- One more item of a sorted list is counted: it is the last one again, or a new one.
use Rattle.std.proofs.Common.{◌≡◌, ℕ, ◌+◌, ◌-◌, ◌<◌, ◌≤◌, List, [], ◌∷◌, ◌++◌, length, get_or, take, min, All, Bool, true, false, cond, refl, sym, ap, ◌∙◌, subst, arith, ⊎_elim, Some, None}
use Rattle.std.specs.declared.cmp.Ordering.{Ordering}
use Rattle.std.specs.declared.cmp.Ordering.TheVariants.{Less, Equal, Greater}
use Rattle.std.specs.Ordering.{is_gt, is_eq, is_lt, ordering_reverse, eq_by_cmp, on}
use Rattle.std.specs.Cmp.{IsTotalOrder}
use Rattle.std.specs.List.{count_by, slice_get}
use Rattle.std.proofs.lemmas.Option.{slice_get-get_or}
use Rattle.std.proofs.lemmas.Cmp.{alike_right, tied_itself}
use Rattle.std.proofs.lemmas.List.{take_more, length-append, length-take, get_or-take, get_or_default}
use Rattle.std.specs.List.Sorted.{IsSorted}
use Rattle.std.proofs.lemmas.List.Sorted.{ranks_by, sorted_far}
use Rattle.std.proofs.lemmas.Bool.{cases_lt}
use Rattle.std.proofs.Math.ListN.{get_or-append}
use Rattle.std.proofs.Math.Seq.{get_or-append_seam}
use Rattle.std.proofs.lemmas.List.Sums.{sum_by_push, sum_by-le}
use Rattle.std.proofs.lemmas.List.Elements.{All-push}
use Rattle.std.proofs.lemmas.List.Quantifiers.{all_pairs_push}
use Rattle.std.proofs.lemmas.Grind.{common_steps}
use Rattle.lists.specs.declared.tally.Tally.{Tally}
use Rattle.lists.specs.Rising.{IsRising, count_of}
use Rattle.lists.specs.Tallied.{UpTo, IsTallied}
use Rattle.lists.proofs.Counts.{count-push}
use Rattle.lists.proofs.Items.{taken_more}
use Rattle.lists.proofs.Orderings.{equal_from, less_from_others}
use Rattle.lists.proofs.RisingLists.{front_below, front_rising}

-- ---- orderings
greater_is_apart : (r s : Ordering) → s ≡ Less → r ≡ ordering_reverse s → is_eq r ≡ false
greater_is_apart r s h e = rw (e, h) refl

equal_is_tied : (r : Ordering) → r ≡ Equal → is_eq r ≡ true
equal_is_tied r e = rw e refl

turned : (r t : Ordering) → t ≡ ordering_reverse r → is_lt t ≡ false → is_gt r ≡ false
turned Less t e h = refl
turned Equal t e h = refl
turned Greater t e h = sym (ap is_lt e) ∙ h

turned_equal : (r t : Ordering) → t ≡ ordering_reverse r → r ≡ Equal → t ≡ Equal
turned_equal r t e h = rw h at e

-- ---- lists with one more item at the end
pub front_and_last : {X : Type 0} (xs : List X) (d : X) → 0 < length xs → xs ≡ take (length xs - 1) xs ++ get_or xs (length xs - 1) d ∷ []
front_and_last xs d h = grind (arith, common_steps, take_more xs (length xs - 1) d)

pub All-front : {X : Type 0} (P : X → Type 0) (xs : List X) (y : X) → All P (xs ++ y ∷ []) → All P xs
All-front P xs y all k d h = subst P (get_or-append xs (y ∷ []) d k h) (all k d (omega (arith, length-append xs (y ∷ []))))

pub All-last : {X : Type 0} (P : X → Type 0) (xs : List X) (y : X) → All P (xs ++ y ∷ []) → P y
All-last P xs y all = subst P (get_or-append_seam xs y [] y) (all (length xs) y (omega (arith, length-append xs (y ∷ []))))

-- ---- the steps
module _ {X : Type 0} {R : X → X → Ordering} (o : IsTotalOrder R) where
  standing_push : (x : X) (t : Tally X) (ts : List (Tally X)) → count_by (λ t. is_eq (R t.item x)) (ts ++ t ∷ []) ≡ count_by (λ t. is_eq (R t.item x)) ts + cond (is_eq (R t.item x)) 1 0
  standing_push x t ts = sum_by_push (λ (t : Tally X). cond (is_eq (R t.item x)) 1 0) ts t

  -- what is below x is counted no more often after x
  count_above : (x z : X) (xs : List X) → R x z ≡ Less → count_of R x (xs ++ z ∷ []) ≡ count_of R x xs
  count_above x z xs less = count-push R x z xs ∙ nothing (count_of R x xs) (is_eq (R z x)) (greater_is_apart (R z x) (R x z) less (o.antisymm z x))
    where
      nothing : (n : ℕ) (b : Bool) → b ≡ false → n + cond b 1 0 ≡ n
      nothing n b e = rw e (omega arith)

  none_standing : (x s : X) (ts : List (Tally X)) → All (λ t. R t.item x ≡ Less) ts → R x s ≡ Equal → count_by (λ t. is_eq (R t.item s)) ts ≡ 0
  none_standing x s ts below e =
      let each : All (λ t. cond (is_eq (R t.item s)) 1 0 ≤ 0) ts = λ k d h. none (R (get_or ts k d).item s) (sym (alike_right o x s (get_or ts k d).item e) ∙ below k d h) in
      let most = sum_by-le (λ (t : Tally X). cond (is_eq (R t.item s)) 1 0) 0 ts each in
      omega arith
    where
      none : (r : Ordering) → r ≡ Less → cond (is_eq r) 1 0 ≤ 0
      none r e = rw e (omega arith)

  -- all tallies up to x are below x, where the last one is not of x
  all_below : (ts : List (Tally X)) (x : X) → IsRising (on (λ t. t.item) R) ts → All (λ t. is_gt (R t.item x) ≡ false) ts → ((d : Tally X) → 0 < length ts → is_eq (R (get_or ts (length ts - 1) d).item x) ≡ false) → All (λ t. R t.item x ≡ Less) ts
  all_below ts x rising upto last k d h =
      let n = length ts - 1 in
      let last_less : R (get_or ts n d).item x ≡ Less = less_from_others (R (get_or ts n d).item x) (upto n d (omega arith)) (last d (omega arith)) in
      ⊎_elim (λ l. o.trans (get_or ts k d).item (get_or ts n d).item x (rising k n d l (omega arith)) last_less) (λ g. let e : k ≡ n = omega arith in rw e last_less) (cases_lt k n)

  new_item : (passed : List X) (ts : List (Tally X)) (t : Tally X) → t.times ≡ 1 → IsTallied R passed ts → UpTo R t.item passed → ((d : Tally X) → 0 < length ts → is_eq (R (get_or ts (length ts - 1) d).item t.item) ≡ false) → IsTallied R (passed ++ t.item ∷ []) (ts ++ t ∷ [])
  new_item passed ts t once inv upto last =
      let x = t.item in
      let below = all_below ts x inv.rising (inv.bounded x upto) last in
      let no_one : (z : X) → R x z ≡ Equal → count_of R z passed ≡ 0 = λ z e. none_passed (count_of R z passed) (sym (none_standing x z ts below e) ∙ inv.each z) in
      record {
        rising = all_pairs_push (λ (u v : Tally X). R u.item v.item ≡ Less) ts t inv.rising below;
        times =
            All-push (λ (u : Tally X). u.times ≡ count_of R u.item (passed ++ x ∷ [])) ts t
            (λ k d h. inv.times k d h ∙ sym (count_above (get_or ts k d).item x passed (below k d h)))
            (once ∙ sym (count-push R x x passed ∙ one_more (count_of R x passed) (is_eq (R x x)) (no_one x (tied_itself o x)) (equal_is_tied (R x x) (tied_itself o x))));
        each = λ z. rw (standing_push z t ts, count-push R z x passed) (first_one (count_by (λ t. is_eq (R t.item z)) ts) (count_of R z passed) (is_eq (R x z)) (inv.each z) (λ e. no_one z (equal_from (R x z) e)));
        bounded = λ z upto_z.
            let P : Tally X → Type 0 = λ u. is_gt (R u.item z) ≡ false in
            let Q : X → Type 0 = λ y. is_gt (R y z) ≡ false in
            All-push P ts t (inv.bounded z (All-front Q passed x upto_z)) (All-last Q passed x upto_z);
      }
    where
      none_passed : (n : ℕ) → 0 ≡ min 1 n → n ≡ 0
      none_passed n e = omega arith

      one_more : (n : ℕ) (b : Bool) → n ≡ 0 → b ≡ true → n + cond b 1 0 ≡ 1
      one_more n b e h = rw (e, h) refl

      first_one : (k n : ℕ) (b : Bool) → k ≡ min 1 n → (b ≡ true → n ≡ 0) → k + cond b 1 0 ≡ min 1 (n + cond b 1 0)
      first_one k n true e h = let z = h refl in omega arith
      first_one k n false e h = omega arith

  again : (passed : List X) (ts : List (Tally X)) (x : X) (t u : Tally X) → 0 < length ts → t ≡ get_or ts (length ts - 1) t → u.item ≡ t.item → u.times ≡ t.times + 1 → R t.item x ≡ Equal → IsTallied R passed ts → IsTallied R (passed ++ x ∷ []) (take (length ts - 1) ts ++ u ∷ [])
  again passed ts x t u some is item times ties inv =
      let front = take (length ts - 1) ts in
      let split : ts ≡ front ++ t ∷ [] = front_and_last ts t some ∙ ap (λ w. front ++ w ∷ []) (sym is) in
      let Rt = on (λ (t : Tally X). t.item) R in
      let rising : IsRising Rt (front ++ t ∷ []) = subst (IsRising Rt) split inv.rising in
      let below = front_below Rt front t rising in
      let P : Tally X → Type 0 = λ u. u.times ≡ count_of R u.item passed in
      let counted : All P (front ++ t ∷ []) = subst (All P) split inv.times in
      record {
        rising = all_pairs_push (λ (u v : Tally X). R u.item v.item ≡ Less) front u (front_rising Rt front t rising) (λ k d h. rw item (below k d h));
        times =
            All-push (λ (u : Tally X). u.times ≡ count_of R u.item (passed ++ x ∷ [])) front u
            (λ k d h. All-front P front t counted k d h ∙ sym (count_above (get_or front k d).item x passed (sym (alike_right o t.item x (get_or front k d).item ties) ∙ below k d h)))
            (times ∙ rw item (ap (λ n. n + 1) (All-last P front t counted) ∙ sym (count-push R t.item x passed ∙ one_more (count_of R t.item passed) (is_eq (R x t.item)) (equal_is_tied (R x t.item) (turned_equal (R t.item x) (R x t.item) (o.antisymm x t.item) ties)))));
        each = λ z.
            let standing : count_by (λ t. is_eq (R t.item z)) ts ≡ count_by (λ t. is_eq (R t.item z)) front + cond (is_eq (R t.item z)) 1 0 = ap (count_by (λ t. is_eq (R t.item z))) split ∙ standing_push z t front in
            let same : R t.item z ≡ R x z = o.congr t.item x z ties in
            rw (standing_push z u front, item, count-push R z x passed, ← same) (no_more (count_by (λ t. is_eq (R t.item z)) front) (count_of R z passed) (is_eq (R t.item z)) (sym standing ∙ inv.each z));
        bounded = λ z upto_z.
            let B : Tally X → Type 0 = λ u. is_gt (R u.item z) ≡ false in
            let Q : X → Type 0 = λ y. is_gt (R y z) ≡ false in
            let all : All B (front ++ t ∷ []) = subst (All B) split (inv.bounded z (All-front Q passed x upto_z)) in
            All-push B front u (All-front B front t all) (rw item (All-last B front t all));
      }
    where
      one_more : (n : ℕ) (b : Bool) → b ≡ true → n + cond b 1 0 ≡ n + 1
      one_more n b h = rw h refl

      no_more : (k n : ℕ) (b : Bool) → k + cond b 1 0 ≡ min 1 n → k + cond b 1 0 ≡ min 1 (n + cond b 1 0)
      no_more k n true e = omega arith
      no_more k n false e = omega arith

  module _ {E : X → X → Bool} (ties : (x y : X) → E x y ≡ eq_by_cmp R x y) where
    -- the last tally is of x
    pub again_if : (passed : List X) (ts front ts' : List (Tally X)) (x : X) (t u : Tally X) → slice_get ts (length ts - 1) ≡ Some t → E t.item x ≡ true → u.item ≡ t.item → u.times ≡ t.times + 1 → front ≡ take (length ts - 1) ts → ts' ≡ front ++ u ∷ [] → IsTallied R passed ts → IsTallied R (passed ++ x ∷ []) ts'
    again_if passed [] front ts' x t u last test item times f e inv = cc
    again_if passed (s ∷ ss) front ts' x t u last test item times f e inv =
        let ts = s ∷ ss in
        let is : t ≡ get_or ts (length ts - 1) t = of_some t (get_or ts (length ts - 1) t) (sym last ∙ slice_get-get_or ts (length ts - 1) t (omega arith)) in
        rw (e, f) (again passed ts x t u (omega arith) is item times (equal_from (R t.item x) (sym (ties t.item x) ∙ test)) inv)
      where
        of_some : (t u : Tally X) → Some t ≡ Some u → t ≡ u
        of_some t u e = cc

    -- it is of another item
    pub new_if : (passed : List X) (ts ts' : List (Tally X)) (x : X) (t u : Tally X) → slice_get ts (length ts - 1) ≡ Some t → E t.item x ≡ false → u.item ≡ x → u.times ≡ 1 → ts' ≡ ts ++ u ∷ [] → IsTallied R passed ts → UpTo R x passed → IsTallied R (passed ++ x ∷ []) ts'
    new_if passed ts ts' x t u last test item times e inv upto =
        let B : X → Type 0 = λ z. is_eq (R t.item z) ≡ false in
        let apart : is_eq (R t.item u.item) ≡ false = subst B (sym item) (sym (ties t.item x) ∙ test) in
        let U : X → Type 0 = λ z. UpTo R z passed in
        let T : X → Type 0 = λ z. IsTallied R (passed ++ z ∷ []) (ts ++ u ∷ []) in
        rw e (subst T item (new_item passed ts u times inv (subst U (sym item) upto) (λ d some. let is = of_some t (get_or ts (length ts - 1) d) (sym last ∙ slice_get-get_or ts (length ts - 1) d (omega arith)) in let C : Tally X → Type 0 = λ w. is_eq (R w.item u.item) ≡ false in subst C is apart)))
      where
        of_some : (t u : Tally X) → Some t ≡ Some u → t ≡ u
        of_some t u e = cc

    -- there is none
    pub new_first : (passed : List X) (ts ts' : List (Tally X)) (x : X) (u : Tally X) → slice_get ts (length ts - 1) ≡ None → u.item ≡ x → u.times ≡ 1 → ts' ≡ ts ++ u ∷ [] → IsTallied R passed ts → UpTo R x passed → IsTallied R (passed ++ x ∷ []) ts'
    new_first passed ts ts' x u last item times e inv upto =
        let U : X → Type 0 = λ z. UpTo R z passed in
        let T : X → Type 0 = λ z. IsTallied R (passed ++ z ∷ []) (ts ++ u ∷ []) in
        rw e (subst T item (new_item passed ts u times inv (subst U (sym item) upto) (λ d some. let is = slice_get-get_or ts (length ts - 1) d (omega arith) in cc)))

  -- the items before place i of a sorted list are at most the one there
  pub upto_sorted : (xs : List X) (i : ℕ) (x : X) → IsSorted R xs → i < length xs → x ≡ get_or xs i x → UpTo R x (take i xs)
  upto_sorted xs i x sorted h is k d l =
      let order = ranks_by o (λ y. y) in
      let l' : k < i = omega (arith, length-take i xs) in
      let far : is_lt (R (get_or xs i x) (get_or xs k x)) ≡ false = sorted_far (λ y z. is_lt (R y z)) order xs sorted k i x (omega arith) h in
      let same : get_or (take i xs) k d ≡ get_or xs k x = get_or-take i xs k d l' ∙ get_or_default xs k d x (omega arith) in
      rw same (turned (R (get_or xs k x) x) (R x (get_or xs k x)) (o.antisymm x (get_or xs k x)) (ap (λ y. is_lt (R y (get_or xs k x))) is ∙ far))

  pub step : (xs : List X) (i : ℕ) (x : X) {ts : List (Tally X)} → i < length xs → x ≡ get_or xs i x → IsTallied R (take i xs ++ x ∷ []) ts → IsTallied R (take (i + 1) xs) ts
  step xs i x {ts} h is t =
      let more = taken_more xs i x h is in
      rw more t
