-- What cancelling pairs leaves has the parity of the whole, whatever is summed.
use Rattle.std.proofs.Common.{◌≡◌, ℕ, zero, suc, ◌+◌, ◌*◌, ◌/◌, ◌%◌, ◌≤◌, Bool, true, false, cond, not, List, [], ◌∷◌, ◌++◌, length, filter, refl, sym, ap, ◌∙◌, arith}
use Rattle.std.specs.declared.cmp.Ordering.{Ordering}
use Rattle.std.specs.declared.cmp.Ordering.TheVariants.{Equal}
use Rattle.std.specs.Cmp.{IsTotalOrder}
use Rattle.std.specs.List.{sum_by}
use Rattle.std.specs.Ordering.{is_eq}
use Rattle.std.proofs.lemmas.Cmp.{tied_itself}
use Rattle.std.proofs.lemmas.List.Sums.{count_by-le-length, length-filter, sum_by-append, sum_by-cons}
use Rattle.lists.specs.Rising.{count_of}
pub use Rattle.lists.proofs.ListsKit.{count-cons}
use Rattle.lists.proofs.ListsKit.{equal_from}

even_times : (n m : ℕ) → n % 2 ≡ 0 → (n * m) % 2 ≡ 0
even_times n m e =
    let k : ℕ = n / 2 in
    let half : n ≡ k + k = omega arith in
    let both : n * m ≡ k * m + k * m = ap (λ x. x * m) half ∙ (omega arith) in
    omega arith

module _ {X : Type 0} {R : X → X → Ordering} (total : IsTotalOrder R) (exact : (x y : X) → R x y ≡ Equal → x ≡ y) where
  tied_is : (x y : X) → is_eq (R x y) ≡ true → x ≡ y
  tied_is x y e = exact x y (equal_from (R x y) e)

  itself : (x : X) → is_eq (R x x) ≡ true
  itself x = rw (tied_itself total x) refl

  abbrev without : X → List X → List X
  without x zs = filter (λ y. not (is_eq (R y x))) zs

  split : (f : X → ℕ) (x : X) (zs : List X) → sum_by f zs ≡ count_of R x zs * f x + sum_by f (without x zs)
  split f x [] = omega arith
  split f x (y ∷ zs) = by (is_eq (R y x)) refl (split f x zs)
    where
      by : (b : Bool) → is_eq (R y x) ≡ b → sum_by f zs ≡ count_of R x zs * f x + sum_by f (without x zs) → sum_by f (y ∷ zs) ≡ count_of R x (y ∷ zs) * f x + sum_by f (cond (not b) (y ∷ without x zs) (without x zs))
      by true e rest =
          let same : f y ≡ f x = ap f (tied_is y x e) in
          let one : cond {A = ℕ} (is_eq (R y x)) 1 0 ≡ 1 = ap (λ b. cond {A = ℕ} b 1 0) e in
          let n : count_of R x (y ∷ zs) ≡ 1 + count_of R x zs = count-cons R x y zs ∙ ap (λ m. m + count_of R x zs) one in
          let times : count_of R x (y ∷ zs) * f x ≡ f x + count_of R x zs * f x = ap (λ m. m * f x) n ∙ (omega arith) in
          let head = sum_by-cons f y zs in
          omega arith
      by false e rest =
          let none : cond {A = ℕ} (is_eq (R y x)) 1 0 ≡ 0 = ap (λ b. cond {A = ℕ} b 1 0) e in
          let n : count_of R x (y ∷ zs) ≡ count_of R x zs = count-cons R x y zs ∙ (omega arith) in
          let times : count_of R x (y ∷ zs) * f x ≡ count_of R x zs * f x = ap (λ m. m * f x) n in
          let head = sum_by-cons f y zs in
          let kept = sum_by-cons f y (without x zs) in
          omega arith

  none_left : (x : X) (zs : List X) → count_of R x (without x zs) ≡ 0
  none_left x [] = refl
  none_left x (y ∷ zs) = by (is_eq (R y x)) refl (none_left x zs)
    where
      by : (b : Bool) → is_eq (R y x) ≡ b → count_of R x (without x zs) ≡ 0 → count_of R x (cond (not b) (y ∷ without x zs) (without x zs)) ≡ 0
      by true e rest = rest
      by false e rest = let none : cond {A = ℕ} (is_eq (R y x)) 1 0 ≡ 0 = ap (λ b. cond {A = ℕ} b 1 0) e in let n = count-cons R x y (without x zs) in omega arith

  others_left : (x z : X) → is_eq (R x z) ≡ false → (zs : List X) → count_of R z (without x zs) ≡ count_of R z zs
  others_left x z apart [] = refl
  others_left x z apart (y ∷ zs) = by (is_eq (R y x)) refl (others_left x z apart zs)
    where
      by : (b : Bool) → is_eq (R y x) ≡ b → count_of R z (without x zs) ≡ count_of R z zs → count_of R z (cond (not b) (y ∷ without x zs) (without x zs)) ≡ count_of R z (y ∷ zs)
      by true e rest =
          let none : cond {A = ℕ} (is_eq (R y z)) 1 0 ≡ 0 = ap (λ (w : X). cond {A = ℕ} (is_eq (R w z)) 1 0) (tied_is y x e) ∙ ap (λ b. cond {A = ℕ} b 1 0) apart in
          let n = count-cons R z y zs in
          omega arith
      by false e rest = let m = count-cons R z y (without x zs) in let n = count-cons R z y zs in omega arith

  even_left : (x : X) (zs : List X) → ((z : X) → count_of R z zs % 2 ≡ 0) → (z : X) → count_of R z (without x zs) % 2 ≡ 0
  even_left x zs even z = by (is_eq (R x z)) refl
    where
      by : (b : Bool) → is_eq (R x z) ≡ b → count_of R z (without x zs) % 2 ≡ 0
      by true e = let none : count_of R z (without x zs) ≡ 0 = ap (λ (w : X). count_of R w (without x zs)) (sym (tied_is x z e)) ∙ none_left x zs in ap (λ n. n % 2) none
      by false e = ap (λ n. n % 2) (others_left x z e zs) ∙ even z

  shorter : (x : X) (zs : List X) → length (without x (x ∷ zs)) ≤ length zs
  shorter x zs =
      let same : without x (x ∷ zs) ≡ without x zs = ap (λ b. cond (not b) (x ∷ without x zs) (without x zs)) (itself x) in
      let n = ap length same in
      let counted = length-filter (λ y. not (is_eq (R y x))) zs in
      let most = count_by-le-length (λ y. not (is_eq (R y x))) zs in
      omega arith

  even_by : (n : ℕ) (f : X → ℕ) (zs : List X) → length zs ≤ n → ((z : X) → count_of R z zs % 2 ≡ 0) → sum_by f zs % 2 ≡ 0
  even_by n f [] h even = refl
  even_by zero f (x ∷ zs) h even = absurd (omega arith)
  even_by (suc n) f (x ∷ zs) h even =
      let short = shorter x zs in
      let rest = even_by n f (without x (x ∷ zs)) (omega arith) (even_left x (x ∷ zs) even) in
      let parts = split f x (x ∷ zs) in
      let times = even_times (count_of R x (x ∷ zs)) (f x) (even x) in
      omega arith

  -- lists in which each item stands alike often up to even numbers
  pub alike_parity : (f : X → ℕ) (xs ys : List X) → ((z : X) → (count_of R z xs + count_of R z ys) % 2 ≡ 0) → sum_by f xs % 2 ≡ sum_by f ys % 2
  alike_parity f xs ys even =
      let whole = even_by (length (xs ++ ys)) f (xs ++ ys) (omega arith) (λ z. let both = sum_by-append (λ y. cond {A = ℕ} (is_eq (R y z)) 1 0) xs ys in ap (λ n. n % 2) both ∙ even z) in
      let both = sum_by-append f xs ys in
      omega arith

  pub odd_parity : (f : X → ℕ) (xs ys : List X) → ((z : X) → count_of R z xs ≡ count_of R z ys % 2) → sum_by f xs % 2 ≡ sum_by f ys % 2
  odd_parity f xs ys odd = alike_parity f xs ys (λ z. let o = odd z in omega arith)
