-- The items that stand in a list a number of times that passes a test, in strict order.
use Rattle.std.proofs.Common.{◌≡◌, ◌∙◌, ℕ, ◌+◌, List, [], ◌∷◌, filter, min, All, Bool, true, false, cond, refl, sym, ap, arith}
use Rattle.std.specs.declared.cmp.Ordering.{Ordering}
use Rattle.std.specs.declared.cmp.Ordering.TheVariants.{Less, Equal, Greater}
use Rattle.std.specs.Ordering.{is_eq}
use Rattle.std.specs.Cmp.{IsTotalOrder}
use Rattle.std.proofs.lemmas.List.Elements.{All-nil, All-cons, All-head, All-tail}
use Rattle.std.proofs.lemmas.List.Kept.{AllPairs-filter}
use Rattle.lists.specs.Rising.{IsRising, count_of}
use Rattle.lists.proofs.Counts.{count-cons, count-tied, count_below}
use Rattle.lists.proofs.Orderings.{equal_from}
use Rattle.lists.proofs.RisingLists.{above-all, less_turned, rising-cons, rising-head, rising-none, rising-tail}

-- ---- one more item of a list in strict order, where it isn't there

module _ {X : Type 0} (R : X → X → Ordering) where
  abbrev put : Ordering → (x y : X) (ys more : List X) → List X
  put Less x y ys more = x ∷ y ∷ ys
  put Equal x y ys more = y ∷ ys
  put Greater x y ys more = y ∷ more

  abbrev insert : X → List X → List X
  insert x [] = x ∷ []
  insert x (y ∷ ys) = put (R x y) x y ys (insert x ys)

  all-put : (P : X → Type 0) (r : Ordering) (x y : X) (ys more : List X) → P x → All P (y ∷ ys) → All P more → All P (put r x y ys more)
  all-put P Less x y ys more p all rest = All-cons P x (y ∷ ys) p all
  all-put P Equal x y ys more p all rest = all
  all-put P Greater x y ys more p all rest = All-cons P y more (All-head P y ys all) rest

  all-insert : (P : X → Type 0) (x : X) (ys : List X) → P x → All P ys → All P (insert x ys)
  all-insert P x [] p all = All-cons P x [] p all
  all-insert P x (y ∷ ys) p all = all-put P (R x y) x y ys (insert x ys) p all (all-insert P x ys p (All-tail P y ys all))

  -- the items of a list, each once
  abbrev once : List X → List X
  once [] = []
  once (x ∷ xs) = insert x (once xs)

  -- those that stand a number of times that passes the test
  abbrev pub picked : (ℕ → Bool) → List X → List X
  picked q xs = filter (λ x. q (count_of R x xs)) (once xs)

module _ {X : Type 0} {R : X → X → Ordering} (o : IsTotalOrder R) where
  rising-put : (r : Ordering) (x y : X) (ys more : List X) → R x y ≡ r → IsRising R (y ∷ ys) → (R y x ≡ Less → All (λ z. R y z ≡ Less) more) → IsRising R more → IsRising R (put R r x y ys more)
  rising-put Less x y ys more is up below rest = rising-cons R x (y ∷ ys) (above-all o x y ys is up) up
  rising-put Equal x y ys more is up below rest = up
  rising-put Greater x y ys more is up below rest = rising-cons R y more (below (less_turned o x y is)) rest

  rising-insert : (x : X) (ys : List X) → IsRising R ys → IsRising R (insert R x ys)
  rising-insert x [] up = rising-cons R x [] (All-nil (λ z. R x z ≡ Less)) up
  rising-insert x (y ∷ ys) up =
      rising-put (R x y) x y ys (insert R x ys) refl up (λ less. all-insert R (λ z. R y z ≡ Less) x ys less (rising-head R y ys up)) (rising-insert x ys (rising-tail R y ys up))

  -- ---- how often an item stands there

  -- z, where it ties with x, which is below the list
  none-tied : (z x : X) (ys : List X) → R x z ≡ Equal → All (λ y. R x y ≡ Less) ys → count_of R z ys ≡ 0
  none-tied z x ys same below = count_below o z ys (λ k d l. sym (o.congr x z _ same) ∙ below k d l)

  count-put : (r : Ordering) (b : Bool) (z x y : X) (ys more : List X) → R x y ≡ r → is_eq (R x z) ≡ b → IsRising R (y ∷ ys) → count_of R z more ≡ cond b 1 (count_of R z ys)
      → count_of R z (put R r x y ys more) ≡ cond b 1 (count_of R z (y ∷ ys))
  count-put Less true z x y ys more is same up rest =
      let first : cond {A = ℕ} (is_eq (R x z)) 1 0 ≡ 1 = rw same refl in
      let none = none-tied z x (y ∷ ys) (equal_from (R x z) same) (above-all o x y ys is up) in
      omega (arith, count-cons R z x (y ∷ ys))
  count-put Less false z x y ys more is other up rest =
      let first : cond {A = ℕ} (is_eq (R x z)) 1 0 ≡ 0 = rw other refl in
      omega (arith, count-cons R z x (y ∷ ys))
  count-put Equal true z x y ys more is same up rest =
      let here : R y z ≡ Equal = sym (o.congr x y z is) ∙ equal_from (R x z) same in
      let first : cond {A = ℕ} (is_eq (R y z)) 1 0 ≡ 1 = rw here refl in
      let none = none-tied z y ys here (rising-head R y ys up) in
      omega (arith, count-cons R z y ys)
  count-put Equal false z x y ys more is other up rest = refl
  count-put Greater true z x y ys more is same up rest =
      let above : R z y ≡ Greater = sym (o.congr x z y (equal_from (R x z) same)) ∙ is in
      let first : cond {A = ℕ} (is_eq (R y z)) 1 0 ≡ 0 = rw (less_turned o z y above) refl in
      omega (arith, rest, count-cons R z y more)
  count-put Greater false z x y ys more is other up rest = omega (arith, rest, count-cons R z y more, count-cons R z y ys)

  count-insert : (z x : X) (ys : List X) → IsRising R ys → count_of R z (insert R x ys) ≡ cond (is_eq (R x z)) 1 (count_of R z ys)
  count-insert z x [] up = count-cons R z x [] ∙ by (is_eq (R x z))
    where
      by : (b : Bool) → cond {A = ℕ} b 1 0 + 0 ≡ cond b 1 0
      by true = refl
      by false = refl
  count-insert z x (y ∷ ys) up = count-put (R x y) (is_eq (R x z)) z x y ys (insert R x ys) refl refl up (count-insert z x ys (rising-tail R y ys up))

  rising-once : (xs : List X) → IsRising R (once R xs)
  rising-once [] = rising-none R
  rising-once (x ∷ xs) = rising-insert x (once R xs) (rising-once xs)

  count-once : (z : X) (xs : List X) → count_of R z (once R xs) ≡ min 1 (count_of R z xs)
  count-once z [] = refl
  count-once z (x ∷ xs) =
      count-insert z x (once R xs) (rising-once xs)
      ∙ (ap (cond (is_eq (R x z)) 1) (count-once z xs) ∙ (by (is_eq (R x z)) (count_of R z xs) ∙ ap (min 1) (sym (count-cons R z x xs))))
    where
      by : (b : Bool) (n : ℕ) → cond b 1 (min 1 n) ≡ min 1 (cond b 1 0 + n)
      by true n = grind arith
      by false n = grind arith

  -- ---- the items picked

  pub rising-picked : (q : ℕ → Bool) (xs : List X) → IsRising R (picked R q xs)
  rising-picked q xs = AllPairs-filter (λ y z. R y z ≡ Less) (λ x. q (count_of R x xs)) (once R xs) (rising-once xs)

  filter-first : (p here : Bool) (z y : X) (ys more : List X) → (is_eq (R y z) ≡ true → p ≡ here) → count_of R z more ≡ cond here (count_of R z ys) 0
      → count_of R z (cond p (y ∷ more) more) ≡ cond here (count_of R z (y ∷ ys)) 0
  filter-first true true z y ys more alike rest = omega (arith, rest, count-cons R z y more, count-cons R z y ys)
  filter-first false false z y ys more alike rest = rest
  filter-first true false z y ys more alike rest = by (is_eq (R y z)) refl
    where
      by : (b : Bool) → is_eq (R y z) ≡ b → count_of R z (y ∷ more) ≡ 0
      by true same = absurd (cc (alike same))
      by false other = let first : cond {A = ℕ} (is_eq (R y z)) 1 0 ≡ 0 = rw other refl in omega (arith, rest, count-cons R z y more)
  filter-first false true z y ys more alike rest = by (is_eq (R y z)) refl
    where
      by : (b : Bool) → is_eq (R y z) ≡ b → count_of R z more ≡ count_of R z (y ∷ ys)
      by true same = absurd (cc (alike same))
      by false other = let first : cond {A = ℕ} (is_eq (R y z)) 1 0 ≡ 0 = rw other refl in omega (arith, rest, count-cons R z y ys)

  count-filter : (p : X → Bool) (z : X) (ys : List X) → ((y : X) → R y z ≡ Equal → p y ≡ p z) → count_of R z (filter p ys) ≡ cond (p z) (count_of R z ys) 0
  count-filter p z [] alike = by (p z)
    where
      by : (b : Bool) → 0 ≡ cond {A = ℕ} b 0 0
      by true = refl
      by false = refl
  count-filter p z (y ∷ ys) alike = filter-first (p y) (p z) z y ys (filter p ys) (λ same. alike y (equal_from (R y z) same)) (count-filter p z ys alike)

  pub count-picked : (q : ℕ → Bool) (xs : List X) (z : X) → count_of R z (picked R q xs) ≡ cond (q (count_of R z xs)) (min 1 (count_of R z xs)) 0
  count-picked q xs z =
      count-filter (λ x. q (count_of R x xs)) z (once R xs) (λ y same. ap q (count-tied o y z xs same))
      ∙ ap (λ n. cond (q (count_of R z xs)) n 0) (count-once z xs)
