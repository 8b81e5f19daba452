-- The items that are picked from tallies by how often they stand.
use Rattle.std.proofs.Common.{◌≡◌, ℕ, suc, ◌+◌, ◌<◌, ◌%◌, ◌==◌, List, [], ◌∷◌, length, min, map, filter, All, Bool, true, false, cond, nat_le, refl, sym, ap, ◌∙◌, subst, arith}
use Rattle.std.specs.declared.cmp.Ordering.{Ordering}
use Rattle.std.specs.declared.cmp.Ordering.TheVariants.{Less}
use Rattle.std.specs.Ordering.{is_eq, on}
use Rattle.std.specs.Cmp.{IsTotalOrder}
use Rattle.std.specs.List.{count_by}
use Rattle.std.proofs.lemmas.Bool.Decides.{Decides-eqb, leb_tells}
use Rattle.std.proofs.lemmas.List.{get_or-map, length-map}
use Rattle.std.proofs.lemmas.List.Kept.{AllPairs-filter}
use Rattle.std.proofs.lemmas.List.Sums.{sum_by-cons}
use Rattle.std.proofs.lemmas.List.Elements.{All-filter}
use Rattle.lists.specs.declared.tally.Tally.{Tally}
use Rattle.lists.specs.Rising.{IsRising, count_of}
use Rattle.lists.proofs.Counts.{count-tied}
use Rattle.lists.proofs.Orderings.{equal_from}

-- ---- the tests by which items are picked, and how often the picked ones stand
pub odd_once : (n : ℕ) → cond (n % 2 == 1) (min 1 n) 0 ≡ n % 2
odd_once n = grind (arith, Decides-eqb)

pub twice_once : (n : ℕ) → cond (nat_le 2 n) (min 1 n) 0 ≡ cond (nat_le 2 n) 1 0
twice_once n = grind (arith, leb_tells)

module _ {X : Type 0} {R : X → X → Ordering} (o : IsTotalOrder R) where
  count-map : (x : X) (ts : List (Tally X)) → count_of R x (map (λ t. t.item) ts) ≡ count_by (λ t. is_eq (R t.item x)) ts
  count-map x [] = refl
  count-map x (t ∷ ts) =
      sum_by-cons (λ y. cond (is_eq (R y x)) 1 0) t.item (map (λ t. t.item) ts)
      ∙ (ap (λ n. cond (is_eq (R t.item x)) 1 0 + n) (count-map x ts) ∙ sym (sum_by-cons (λ (t : Tally X). cond (is_eq (R t.item x)) 1 0) t ts))

  module _ (items : List X) (q : ℕ → Bool) where
    step_by : (n m : ℕ) (b p w : Bool) → (b ≡ true → p ≡ w) → n ≡ cond w m 0 → cond {A = ℕ} p (cond b 1 0 + n) n ≡ cond w (cond b 1 0 + m) 0
    step_by n m true true true h e = ap (λ k. 1 + k) e
    step_by n m true true false h e = absurd (cc (h refl))
    step_by n m true false true h e = absurd (cc (h refl))
    step_by n m true false false h e = e
    step_by n m false true true h e = ap (λ k. 0 + k) e
    step_by n m false true false h e = omega (arith, e)
    step_by n m false false true h e = omega (arith, e)
    step_by n m false false false h e = e

    count_cond : (x : X) (t : Tally X) (b : Bool) (ts : List (Tally X)) → count_by (λ t. is_eq (R t.item x)) (cond b (t ∷ ts) ts) ≡ cond b (cond (is_eq (R t.item x)) 1 0 + count_by (λ t. is_eq (R t.item x)) ts) (count_by (λ t. is_eq (R t.item x)) ts)
    count_cond x t true ts = sum_by-cons (λ (t : Tally X). cond (is_eq (R t.item x)) 1 0) t ts
    count_cond x t false ts = refl

    -- how often an item stands among those picked
    picked_by : (x : X) (ts : List (Tally X)) → All (λ t. t.times ≡ count_of R t.item items) ts → count_by (λ t. is_eq (R t.item x)) (filter (λ t. q t.times) ts) ≡ cond (q (count_of R x items)) (count_by (λ t. is_eq (R t.item x)) ts) 0
    picked_by x [] times = sym (none (q (count_of R x items)))
      where
        none : (b : Bool) → cond {A = ℕ} b 0 0 ≡ 0
        none true = refl
        none false = refl
    picked_by x (t ∷ ts) times =
        let rest = picked_by x ts (λ k d h. times (suc k) d (omega arith)) in
        let same : is_eq (R t.item x) ≡ true → q t.times ≡ q (count_of R x items) = λ e. ap q (times 0 t (omega arith) ∙ count-tied o t.item x items (equal_from (R t.item x) e)) in
        count_cond x t (q t.times) (filter (λ t. q t.times) ts)
        ∙ (step_by (count_by (λ t. is_eq (R t.item x)) (filter (λ t. q t.times) ts)) (count_by (λ t. is_eq (R t.item x)) ts) (is_eq (R t.item x)) (q t.times) (q (count_of R x items)) same rest
        ∙ ap (λ n. cond (q (count_of R x items)) n 0) (sym (sum_by-cons (λ (t : Tally X). cond (is_eq (R t.item x)) 1 0) t ts)))

    pub picked : {vs : List X} {ts ts' : List (Tally X)} → vs ≡ map (λ t. t.item) (filter (λ t. q t.times) ts') → ts' ≡ ts → All (λ t. t.times ≡ count_of R t.item items) ts → ((x : X) → count_by (λ t. is_eq (R t.item x)) ts ≡ min 1 (count_of R x items)) → (x : X) → count_of R x vs ≡ cond (q (count_of R x items)) (min 1 (count_of R x items)) 0
    picked {vs} {ts} {ts'} e d times each x =
        ap (count_of R x) e ∙ (ap (λ ts. count_of R x (map (λ t. t.item) (filter (λ t. q t.times) ts))) d
        ∙ (count-map x (filter (λ t. q t.times) ts) ∙ (picked_by x ts times ∙ ap (λ n. cond (q (count_of R x items)) n 0) (each x))))

  pub all_picked : (items : List X) {vs : List X} {ts ts' : List (Tally X)} → vs ≡ map (λ t. t.item) ts' → ts' ≡ ts → ((x : X) → count_by (λ t. is_eq (R t.item x)) ts ≡ min 1 (count_of R x items)) → (x : X) → count_of R x vs ≡ min 1 (count_of R x items)
  all_picked items {vs} {ts} {ts'} e d each x = ap (count_of R x) e ∙ (ap (λ ts. count_of R x (map (λ t. t.item) ts)) d ∙ (count-map x ts ∙ each x))

  items_rising : (ts : List (Tally X)) → IsRising (on (λ t. t.item) R) ts → IsRising R (map (λ t. t.item) ts)
  items_rising ts rising i j d h l =
      let e : Tally X = record { item = d; times = 0 } in
      let l' : j < length ts = omega (arith, length-map ts (λ (t : Tally X). t.item)) in
      rw (get_or-map (λ (t : Tally X). t.item) ts i e d (omega arith), get_or-map (λ (t : Tally X). t.item) ts j e d l') (rising i j e h l')

  pub rising_items : {vs : List X} {ts ts' : List (Tally X)} → vs ≡ map (λ t. t.item) ts' → ts' ≡ ts → IsRising (on (λ t. t.item) R) ts → IsRising R vs
  rising_items {vs} {ts} {ts'} e d rising = subst (IsRising R) (sym (e ∙ ap (map (λ t. t.item)) d)) (items_rising ts rising)

  pub rising_picked : (p : Tally X → Bool) {vs : List X} {ts ts' : List (Tally X)} → vs ≡ map (λ t. t.item) (filter p ts') → ts' ≡ ts → IsRising (on (λ t. t.item) R) ts → IsRising R vs
  rising_picked p {vs} {ts} {ts'} e d rising = subst (IsRising R) (sym (e ∙ ap (λ ts. map (λ t. t.item) (filter p ts)) d)) (items_rising (filter p ts) (AllPairs-filter (λ (t u : Tally X). R t.item u.item ≡ Less) p ts rising))

  pub times_picked : (items : List X) (p : Tally X → Bool) {us ts ts' : List (Tally X)} → us ≡ filter p ts' → ts' ≡ ts → All (λ t. t.times ≡ count_of R t.item items) ts → All (λ t. t.times ≡ count_of R t.item items) us
  times_picked items p {us} {ts} {ts'} e d times =
      let P : Tally X → Type 0 = λ t. t.times ≡ count_of R t.item items in
      subst (All P) (sym (e ∙ ap (filter p) d)) (All-filter p P ts times)
