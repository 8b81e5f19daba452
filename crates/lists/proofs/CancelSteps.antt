-- One more item of a sorted list cancels the last one left, or is left too.
use Rattle.std.proofs.Common.{◌≡◌, ℕ, ◌+◌, ◌-◌, ◌<◌, ◌≤◌, ◌%◌, List, [], ◌∷◌, ◌++◌, length, get_or, take, All, Bool, true, false, cond, refl, sym, ap, ◌∙◌, set, subst, arith, ⊎_elim}
use Rattle.std.specs.declared.cmp.Ordering.{Ordering}
use Rattle.std.specs.declared.cmp.Ordering.TheVariants.{Less, Equal}
use Rattle.std.specs.Ordering.{is_gt, is_eq, eq_by_cmp}
use Rattle.std.specs.Cmp.{IsTotalOrder}
use Rattle.std.proofs.lemmas.Cmp.{alike_right}
use Rattle.std.proofs.lemmas.Bool.{cases_lt}
use Rattle.std.proofs.lemmas.List.{get_or-take, length-append, length-take, length-take-le, take-take, take_more_set}
use Rattle.std.proofs.lemmas.List.Elements.{All-push}
use Rattle.std.proofs.lemmas.List.Quantifiers.{all_pairs_push}
use Rattle.lists.specs.Rising.{IsRising, count_of}
use Rattle.lists.specs.Tallied.{IsCancelled, UpTo}
use Rattle.lists.proofs.Counts.{count-push, count_none}
use Rattle.lists.proofs.Items.{taken_more}
use Rattle.lists.proofs.Orderings.{equal_from, less_from_others}
use Rattle.lists.proofs.RisingLists.{front_rising}
use Rattle.lists.proofs.TallySteps.{All-front, All-last, front_and_last}

module _ {X : Type 0} {R : X → X → Ordering} (o : IsTotalOrder R) where
  -- all that are left are below x, where the last one doesn't tie with it
  all_below : (left : List X) (x : X) → IsRising R left → UpTo R x left → ((d : X) → 0 < length left → is_eq (R (get_or left (length left - 1) d) x) ≡ false) → All (λ y. R y x ≡ Less) left
  all_below left x rising upto last k d h =
      let n = length left - 1 in
      let last_less : R (get_or left n d) x ≡ Less = less_from_others (R (get_or left n d) x) (upto n d (omega arith)) (last d (omega arith)) in
      ⊎_elim (λ l. o.trans (get_or left k d) (get_or left n d) x (rising k n d l (omega arith)) last_less) (λ g. let e : k ≡ n = omega arith in rw e last_less) (cases_lt k n)

  none_left : (left : List X) (x z : X) → All (λ y. R y x ≡ Less) left → R x z ≡ Equal → count_of R z left ≡ 0
  none_left left x z below e = count_none R z left (λ k d h. apart (R (get_or left k d) z) (sym (alike_right o x z (get_or left k d) e) ∙ below k d h))
    where
      apart : (r : Ordering) → r ≡ Less → is_eq r ≡ false
      apart r h = rw h refl

  -- x is left too
  left_too : (passed left : List X) (x : X) → IsCancelled R passed left → UpTo R x passed → ((d : X) → 0 < length left → is_eq (R (get_or left (length left - 1) d) x) ≡ false) → IsCancelled R (passed ++ x ∷ []) (left ++ x ∷ [])
  left_too passed left x inv upto last =
      let below = all_below left x inv.rising (inv.bounded x upto) last in
      record {
        rising = all_pairs_push (λ (y z : X). R y z ≡ Less) left x inv.rising below;
        odd = λ z. rw (count-push R z x left, count-push R z x passed) (one_more (count_of R z left) (count_of R z passed) (is_eq (R x z)) (inv.odd z) (λ e. none_left left x z below (equal_from (R x z) e)));
        bounded = λ z upto_z.
            let P : X → Type 0 = λ y. is_gt (R y z) ≡ false in
            All-push P left x (inv.bounded z (All-front P passed x upto_z)) (All-last P passed x upto_z);
        fewer = omega (arith, length-append left (x ∷ []), length-append passed (x ∷ []), inv.fewer);
        whole = λ e. ap (λ xs. xs ++ x ∷ []) (inv.whole (omega (arith, length-append left (x ∷ []), length-append passed (x ∷ []), e)));
      }
    where
      one_more : (k n : ℕ) (b : Bool) → k ≡ n % 2 → (b ≡ true → k ≡ 0) → k + cond b 1 0 ≡ (n + cond b 1 0) % 2
      one_more k n true e h = let z = h refl in omega arith
      one_more k n false e h = omega arith

  -- x and the last one left cancel each other
  both_cancel : (passed left : List X) (x y : X) → 0 < length left → y ≡ get_or left (length left - 1) y → R y x ≡ Equal → IsCancelled R passed left → IsCancelled R (passed ++ x ∷ []) (take (length left - 1) left)
  both_cancel passed left x y some is ties inv =
      let front = take (length left - 1) left in
      let split : left ≡ front ++ y ∷ [] = front_and_last left y some ∙ ap (λ w. front ++ w ∷ []) (sym is) in
      record {
        rising = front_rising R front y (subst (IsRising R) split inv.rising);
        odd = λ z.
            let standing : count_of R z left ≡ count_of R z front + cond (is_eq (R y z)) 1 0 = ap (count_of R z) split ∙ count-push R z y front in
            let same : R y z ≡ R x z = o.congr y x z ties in
            rw (count-push R z x passed, ← same) (one_less (count_of R z front) (count_of R z passed) (is_eq (R y z)) (sym standing ∙ inv.odd z));
        bounded = λ z upto_z.
            let P : X → Type 0 = λ w. is_gt (R w z) ≡ false in
            All-front P front y (subst (All P) split (inv.bounded z (All-front P passed x upto_z)));
        fewer = omega (arith, length-take (length left - 1) left, length-append passed (x ∷ []), inv.fewer);
        whole = λ e. absurd (omega (arith, length-take (length left - 1) left, length-append passed (x ∷ []), inv.fewer, e));
      }
    where
      one_less : (k n : ℕ) (b : Bool) → k + cond b 1 0 ≡ n % 2 → k ≡ (n + cond b 1 0) % 2
      one_less k n true e = omega arith
      one_less k n false e = omega arith

  module _ {E : X → X → Bool} (ties : (x y : X) → E x y ≡ eq_by_cmp R x y) where
    -- the last one left ties with x
    pub cancel_at : (items : List X) (left : ℕ) (passed : List X) (x y : X) → left ≤ length items → 0 < left → y ≡ get_or items (left - 1) y → E y x ≡ true → IsCancelled R passed (take left items) → IsCancelled R (passed ++ x ∷ []) (take (left - 1) items)
    cancel_at items left passed x y within some is test inv =
        let kept = take left items in
        let long : length kept ≡ left = length-take-le left items within in
        let last : y ≡ get_or kept (length kept - 1) y = is ∙ (sym (get_or-take left items (left - 1) y (omega arith)) ∙ ap (λ n. get_or kept (n - 1) y) (sym long)) in
        let shorter : take (length kept - 1) kept ≡ take (left - 1) items = ap (λ n. take (n - 1) kept) long ∙ take-take (left - 1) left items (omega arith) in
        subst (IsCancelled R (passed ++ x ∷ [])) shorter (both_cancel passed kept x y (omega arith) last (equal_from (R y x) (sym (ties y x) ∙ test)) inv)

    -- it doesn't, or none is left
    pub left_at : (items : List X) (left : ℕ) (passed : List X) (x : X) → left < length items → ((d : X) → 0 < left → E (get_or items (left - 1) d) x ≡ false) → IsCancelled R passed (take left items) → UpTo R x passed → IsCancelled R (passed ++ x ∷ []) (take (left + 1) (set items left x))
    left_at items left passed x within other inv upto =
        let kept = take left items in
        let long : length kept ≡ left = length-take-le left items (omega arith) in
        let last : (d : X) → 0 < length kept → is_eq (R (get_or kept (length kept - 1) d) x) ≡ false = λ d some.
        let at : get_or kept (length kept - 1) d ≡ get_or items (left - 1) d = ap (λ n. get_or kept (n - 1) d) long ∙ get_or-take left items (left - 1) d (omega arith) in
        let B : X → Type 0 = λ z. is_eq (R z x) ≡ false in
        subst B (sym at) (sym (ties (get_or items (left - 1) d) x) ∙ other d (omega arith)) in
        subst (IsCancelled R (passed ++ x ∷ [])) (sym (take_more_set items left x within)) (left_too passed kept x inv upto last)

  pub cancel_step : (xs : List X) (i : ℕ) (x : X) {left : List X} → i < length xs → x ≡ get_or xs i x → IsCancelled R (take i xs ++ x ∷ []) left → IsCancelled R (take (i + 1) xs) left
  cancel_step xs i x {left} h is t =
      let more = taken_more xs i x h is in
      rw more t

-- what stands as often as it is left stands once at most
pub once_at_most : (n : ℕ) → n ≡ n % 2 → n ≤ 1
once_at_most n e = omega arith
