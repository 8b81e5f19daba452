-- Lists in strict order.
use Rattle.std.proofs.Common.{All, Equal, Greater, Less, List, [], Ordering, ap, arith, cond, get_or, is_eq, length, length-append, refl, subst, suc, ℕ, ◌++◌, ◌∙◌, ◌∷◌, ◌≡◌, false, ◌+◌, ◌≤◌}
use Rattle.std.specs.Cmp.{IsTotalOrder}
use Rattle.std.specs.List.Sorted.{IsSorted}
use Rattle.std.specs.Ordering.{is_lt, ordering_reverse}
use Rattle.std.proofs.Math.ListN.{get_or-append}
use Rattle.std.proofs.Math.Seq.{get_or-append_seam}
use Rattle.std.proofs.lemmas.List.Elements.{All-cons}
use Rattle.std.proofs.lemmas.List.Kept.{AllPairs-cons}
use Rattle.lists.specs.Rising.{IsRising, count_of}
use Rattle.lists.proofs.Counts.{count-cons, count_below, count_none, one_at_head}

module _ {X : Type 0} (R : X → X → Ordering) where
  pub rising-none : IsRising R []
  rising-none i j d l m = absurd (omega arith)

  pub rising-cons : (x : X) (xs : List X) → All (λ y. R x y ≡ Less) xs → IsRising R xs → IsRising R (x ∷ xs)
  rising-cons x xs below up = AllPairs-cons (λ y z. R y z ≡ Less) x xs below up

  pub rising-head : (x : X) (xs : List X) → IsRising R (x ∷ xs) → All (λ y. R x y ≡ Less) xs
  rising-head x xs up k d l = up 0 (suc k) d (omega arith) (omega arith)

  pub rising-tail : (x : X) (xs : List X) → IsRising R (x ∷ xs) → IsRising R xs
  rising-tail x xs up i j d l m = up (suc i) (suc j) d (omega arith) (omega arith)

  -- in a list in strict order the last item is above all before it
  pub front_below : (xs : List X) (y : X) → IsRising R (xs ++ y ∷ []) → All (λ x. R x y ≡ Less) xs
  front_below xs y rising k d h =
      let P : X → Type 0 = λ x. R x y ≡ Less in
      let Q : X → Type 0 = λ z. R (get_or (xs ++ y ∷ []) k d) z ≡ Less in
      let at_end = subst Q (get_or-append_seam xs y [] d) (rising k (length xs) d h (omega (arith, length-append xs (y ∷ [])))) in
      subst P (get_or-append xs (y ∷ []) d k h) at_end

  pub front_rising : (xs : List X) (y : X) → IsRising R (xs ++ y ∷ []) → IsRising R xs
  front_rising xs y rising i j d h l =
      let P : X → Type 0 = λ x. R x (get_or xs j d) ≡ Less in
      let Q : X → Type 0 = λ z. R (get_or (xs ++ y ∷ []) i d) z ≡ Less in
      subst P (get_or-append xs (y ∷ []) d i (omega arith)) (subst Q (get_or-append xs (y ∷ []) d j l) (rising i j d h (omega (arith, length-append xs (y ∷ [])))))

module _ {X : Type 0} {R : X → X → Ordering} (o : IsTotalOrder R) where
  pub above-all : (x y : X) (ys : List X) → R x y ≡ Less → IsRising R (y ∷ ys) → All (λ z. R x z ≡ Less) (y ∷ ys)
  above-all x y ys less up = All-cons (λ z. R x z ≡ Less) y ys less (λ k d l. o.trans x y _ less (rising-head R y ys up k d l))

  pub less_turned : (x y : X) → R x y ≡ Greater → R y x ≡ Less
  less_turned x y more = o.antisymm y x ∙ ap ordering_reverse more

  -- a list in strict order is in order
  pub sorted_from_rising : (xs : List X) → IsRising R xs → IsSorted R xs
  sorted_from_rising xs up k d l m = ap is_lt (o.antisymm (get_or xs (k + 1) d) (get_or xs k d) ∙ ap ordering_reverse (up k (k + 1) d (omega arith) m))

  -- a list in strict order is determined by how often each item stands in it
  pub same_rising : ((x y : X) → R x y ≡ Equal → x ≡ y) → (xs ys : List X) → IsRising R xs → IsRising R ys → ((z : X) → count_of R z xs ≡ count_of R z ys) → xs ≡ ys
  same_rising exact [] [] up down same = refl
  same_rising exact [] (y ∷ ys) up down same = absurd (omega (arith, same y, one_at_head o y ys))
  same_rising exact (x ∷ xs) [] up down same = absurd (omega (arith, same x, one_at_head o x xs))
  same_rising exact (x ∷ xs) (y ∷ ys) up down same =
      by_head (R x y) refl (λ heads. same_rising exact xs ys (rising-tail R x xs up) (rising-tail R y ys down) (λ z. let first : cond {A = ℕ} (is_eq (R x z)) 1 0 ≡ cond {A = ℕ} (is_eq (R y z)) 1 0 = ap (λ w. cond {A = ℕ} (is_eq (R w z)) 1 0) heads in omega (arith, same z, count-cons R z x xs, count-cons R z y ys)))
    where
      by_head : (r : Ordering) → R x y ≡ r → (x ≡ y → xs ≡ ys) → x ∷ xs ≡ y ∷ ys
      by_head Less e tails = absurd (omega (arith, same x, one_at_head o x xs, count_below o x (y ∷ ys) (above-all x y ys e down)))
      by_head Greater e tails = absurd (omega (arith, same y, one_at_head o y ys, count_below o y (x ∷ xs) (above-all y x xs (less_turned x y e) up)))
      by_head Equal e tails = let heads = exact x y e in let rest = tails heads in cc

-- an order under which each item ties with itself alone
module _ {X : Type 0} {R : X → X → Ordering} (itself : (x : X) → R x x ≡ Equal) (exact : (x y : X) → R x y ≡ Equal → x ≡ y) where
  apart_from_above : (r : Ordering) (x y : X) → R y x ≡ r → R x y ≡ Less → is_eq r ≡ false
  apart_from_above Less x y e less = refl
  apart_from_above Greater x y e less = refl
  apart_from_above Equal x y e less = let one : R x y ≡ Equal = ap (R x) (exact y x e) ∙ itself x in absurd (cc)

  stands_once_by : (r : Ordering) (x y : X) (ys : List X) → R y x ≡ r → IsRising R (y ∷ ys) → count_of R x ys ≤ 1 → cond (is_eq r) 1 0 + count_of R x ys ≤ 1
  stands_once_by Less x y ys e up later = omega arith
  stands_once_by Greater x y ys e up later = omega arith
  stands_once_by Equal x y ys e up later =
      let below : All (λ z. R x z ≡ Less) ys = subst (λ w. All (λ z. R w z ≡ Less) ys) (exact y x e) (rising-head R y ys up) in
      omega (arith, count_none R x ys (λ k d h. apart_from_above (R (get_or ys k d) x) x (get_or ys k d) refl (below k d h)))

  -- in a list in strict order each item stands once at most
  pub stands_once : (x : X) (xs : List X) → IsRising R xs → count_of R x xs ≤ 1
  stands_once x [] up = omega arith
  stands_once x (y ∷ ys) up = omega (arith, count-cons R x y ys, stands_once_by (R y x) x y ys refl up (stands_once x ys (rising-tail R y ys up)))
