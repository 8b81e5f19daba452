-- How often an item stands in a list.
use Rattle.std.proofs.Common.{All, Bool, Contains, Equal, Greater, Less, List, [], Ordering, ap, arith, cond, false, get_or, is_eq, length, refl, subst, suc, sym, true, zero, ℕ, ◌++◌, ◌+◌, ◌∙◌, ◌<◌, ◌∷◌, ◌≡◌, ◌≤◌}
use Rattle.std.specs.Cmp.{IsTotalOrder}
use Rattle.std.specs.List.{count_by}
use Rattle.std.proofs.Math.Path.{fun_ext}
use Rattle.std.proofs.lemmas.Cmp.{alike_right, tied_itself}
use Rattle.std.proofs.lemmas.List.Sums.{sum_by-cons, sum_by-le, sum_by_push}
use Rattle.std.specs.Ordering.{ordering_reverse}
use Rattle.lists.specs.Rising.{count_of}
use Rattle.lists.proofs.Orderings.{equal_from}

pub count_by-cons : {X : Type 0} (f : X → Bool) (x : X) (xs : List X) → count_by f (x ∷ xs) ≡ cond {A = ℕ} (f x) 1 0 + count_by f xs
count_by-cons f x xs = sum_by-cons (λ y. cond {A = ℕ} (f y) 1 0) x xs

module _ {X : Type 0} (R : X → X → Ordering) where
  pub count-cons : (z x : X) (xs : List X) → count_of R z (x ∷ xs) ≡ cond (is_eq (R x z)) 1 0 + count_of R z xs
  count-cons z x xs = sum_by-cons (λ y. cond (is_eq (R y z)) 1 0) x xs

  pub count-push : (z x : X) (xs : List X) → count_of R z (xs ++ x ∷ []) ≡ count_of R z xs + cond (is_eq (R x z)) 1 0
  count-push z x xs = sum_by_push (λ y. cond (is_eq (R y z)) 1 0) xs x

  -- an item that is not tied with any in a list does not stand in it
  pub count_none : (z : X) (xs : List X) → All (λ y. is_eq (R y z) ≡ false) xs → count_of R z xs ≡ 0
  count_none z xs apart =
      let each : All (λ y. cond (is_eq (R y z)) 1 0 ≤ 0) xs = λ k d h. rw (apart k d h) (omega arith) in
      let most = sum_by-le (λ y. cond (is_eq (R y z)) 1 0) 0 xs each in
      omega arith

  -- what stands in a list some times is there, where only one item ties with another: itself
  pub count_stands : ((x y : X) → R x y ≡ Equal → x ≡ y) → (x : X) (xs : List X) → 0 < count_of R x xs → Contains xs x
  count_stands exact x [] h = absurd (omega arith)
  count_stands exact x (y ∷ ys) h = by (is_eq (R y x)) refl (count_stands exact x ys)
    where
      by : (b : Bool) → is_eq (R y x) ≡ b → (0 < count_of R x ys → Contains ys x) → Contains (y ∷ ys) x
      by true e later = (0, omega arith, exact y x (equal_from (R y x) e))
      by false e later =
          let none : cond {A = ℕ} (is_eq (R y x)) 1 0 ≡ 0 = ap (λ b. cond {A = ℕ} b 1 0) e in
          let all = count-cons x y ys in
          let r = later (omega arith) in
          (suc r.0, (let l = r.1 in omega arith), r.2)

module _ {X : Type 0} {R : X → X → Ordering} (o : IsTotalOrder R) where
  pub less_is_apart : (y z : X) → R z y ≡ Less → is_eq (R y z) ≡ false
  less_is_apart y z less = rw (o.antisymm y z, less) refl

  -- an item below all of a list does not stand in it
  pub count_below : (z : X) (xs : List X) → All (λ y. R z y ≡ Less) xs → count_of R z xs ≡ 0
  count_below z xs below = count_none R z xs (λ k d l. less_is_apart (get_or xs k d) z (below k d l))

  pub one_at_head : (x : X) (xs : List X) → 0 < count_of R x (x ∷ xs)
  one_at_head x xs = let first : cond {A = ℕ} (is_eq (R x x)) 1 0 ≡ 1 = rw (tied_itself o x) refl in omega (arith, count-cons R x x xs)

  -- items that tie stand equally often
  pub count-tied : (x y : X) (xs : List X) → R x y ≡ Equal → count_of R x xs ≡ count_of R y xs
  count-tied x y xs same = ap (λ f. count_by f xs) (fun_ext (λ z. ap is_eq (alike_right o x y z same)))

  pub count_some : (x : X) (xs : List X) (k : ℕ) → k < length xs → get_or xs k x ≡ x → 0 < count_of R x xs
  count_some x [] k h e = absurd (omega arith)
  count_some x (y ∷ ys) zero h e = subst (λ z. 0 < count_of R x (z ∷ ys)) (sym e) (one_at_head x ys)
  count_some x (y ∷ ys) (suc k) h e = let r = count_some x ys k (omega arith) e in omega (arith, count-cons R x y ys)

  -- ---- strictly less: one way only, and never itself
  pub less_both : (x y : X) → R x y ≡ Less → R y x ≡ Less → ⊥
  less_both x y h k = let t : R x y ≡ Greater = o.antisymm x y ∙ ap ordering_reverse k in let c : Less ≡ Greater = sym h ∙ t in absurd (cc)

  pub less_itself : (x : X) → R x x ≡ Less → ⊥
  less_itself x h = less_both x x h h
