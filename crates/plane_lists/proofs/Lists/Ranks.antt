-- The ranks of the elements of an ordered list are 0, 1, .., each once.
use Rattle.std.proofs.Common.{Bool, List, [], ap, arith, eqb, false, inl, inr, leb, length, not, refl, subst, suc, sym, true, zero, ℕ, ◌%◌, ◌+◌, ◌<◌, ◌∙◌, ◌∷◌, ◌≡◌, ◌≤◌, ◌⊎◌}
use Rattle.std.proofs.lemmas.Bool.{cases_lt, le-leb, lt-leb}
use Rattle.std.specs.List.{count_by, sum_by}
use Rattle.plane.specs.Bit.{bit}
use Rattle.lists.specs.Member.{In}
use Rattle.plane_lists.specs.Lists.Parity.{is_even}
use Rattle.plane_lists.specs.Lists.Rank.{IsOrder, rank, sum_from}
use Rattle.lists.proofs.ListsKit.{even_or_odd, in-all, not-not, total, total-below, total-is, total-less, total-same, true_from_not}

abbrev pub rank' : {X : Type 0} → (X → X → Bool) → List X → X → ℕ
rank' above xs x = total (λ y. bit (above x y)) xs

-- ---- one more number between
abbrev shift : (ℕ → ℕ) → ℕ → ℕ → ℕ
shift f k r = f (bit (leb k r) + r)

shift-low : (f : ℕ → ℕ) (k r : ℕ) → r < k → shift f k r ≡ f r
shift-low f k r h = rw (lt-leb k r h) (ap f (omega arith))

shift-high : (f : ℕ → ℕ) (k r : ℕ) → k ≤ r → shift f k r ≡ f (suc r)
shift-high f k r h = rw (le-leb k r h) (ap f (omega arith))

span-low : (f : ℕ → ℕ) (c k n : ℕ) → n ≤ k → sum_from (shift f (c + k)) c n ≡ sum_from f c n
span-low f c k zero h = refl
span-low f c k (suc n) h = let a = span-low f c k n (omega arith) in let b = shift-low f (c + k) (c + n) (omega arith) in omega arith

span-shift-step : (f : ℕ → ℕ) (c k n : ℕ) → (k ≤ n → sum_from (shift f (c + k)) c n + f (c + k) ≡ sum_from f c (suc n)) → (n < k) ⊎ (k ≤ n) → k ≤ suc n →
    sum_from (shift f (c + k)) c (suc n) + f (c + k) ≡ sum_from f c (suc (suc n))
span-shift-step f c k n ih (inl l) h =
    let e : k ≡ suc n = omega arith in let a = span-low f c k (suc n) (omega arith) in let b = ap (λ m. f (c + m)) e in omega arith
span-shift-step f c k n ih (inr l) h =
    let a = ih l in let b = shift-high f (c + k) (c + n) (omega arith) in let d : f (suc (c + n)) ≡ f (c + suc n) = ap f (omega arith) in omega arith

span-shift : (f : ℕ → ℕ) (c k n : ℕ) → k ≤ n → sum_from (shift f (c + k)) c n + f (c + k) ≡ sum_from f c (suc n)
span-shift f c k zero h = let e : k ≡ 0 = omega arith in let a = ap (λ m. f (c + m)) e in omega arith
span-shift f c k (suc n) h = span-shift-step f c k n (span-shift f c k n) (cases_lt n k) h

bit-most : (b : Bool) (m n : ℕ) → m ≤ n → bit b + m ≤ suc n
bit-most true m n h = omega arith
bit-most false m n h = omega arith

rank-most : {X : Type 0} (p : X → Bool) (xs : List X) → total (λ y. bit (p y)) xs ≤ length xs
rank-most p [] = omega arith
rank-most p (x ∷ xs) = bit-most (p x) (total (λ y. bit (p y)) xs) (length xs) (rank-most p xs)

pub bit-less : (a b : Bool) → (a ≡ true → b ≡ true) → bit a ≤ bit b
bit-less false b h = omega arith
bit-less true b h = rw (h refl) (omega arith)

pub bit-true : (a : Bool) → a ≡ true → bit a ≡ 1
bit-true a h = ap bit h

bit-false : (a : Bool) → a ≡ false → bit a ≡ 0
bit-false a h = ap bit h

-- the rank of y among the others, where x is above it or not
rank-step : {X : Type 0} (own : Bool) (above : X → X → Bool) (xs : List X) (x y : X) → In y xs → above x y ≡ not (above y x) → above y y ≡ own →
    ((z : X) → In z xs → above y x ≡ true → above x z ≡ true → above y z ≡ true) → ((z : X) → In z xs → above x y ≡ true → above y z ≡ true → above x z ≡ true) →
    (b c : Bool) → above y x ≡ b → own ≡ c → b ≡ leb (bit c + rank' above xs x) (rank' above xs y)
rank-step own above xs x y i o s up down true true h k =
    sym (le-leb (1 + rank' above xs x) (rank' above xs y)
    (let l = total-below (λ z. bit (above x z)) (λ z. bit (above y z)) xs y (λ z j. bit-less (above x z) (above y z) (λ t. up z j h t)) i
    (rw (bit-true (above y y) (s ∙ k), bit-false (above x y) (o ∙ ap not h)) (omega arith)) in omega arith))
rank-step own above xs x y i o s up down true false h k =
    sym (le-leb (0 + rank' above xs x) (rank' above xs y)
    (let l = total-less (λ z. bit (above x z)) (λ z. bit (above y z)) xs (λ z j. bit-less (above x z) (above y z) (λ t. up z j h t)) in omega arith))
rank-step own above xs x y i o s up down false true h k =
    sym (lt-leb (1 + rank' above xs x) (rank' above xs y)
    (let l = total-less (λ z. bit (above y z)) (λ z. bit (above x z)) xs (λ z j. bit-less (above y z) (above x z) (λ t. down z j (o ∙ ap not h) t)) in omega arith))
rank-step own above xs x y i o s up down false false h k =
    sym (lt-leb (0 + rank' above xs x) (rank' above xs y)
    (let l = total-below (λ z. bit (above y z)) (λ z. bit (above x z)) xs y (λ z j. bit-less (above y z) (above x z) (λ t. down z j (o ∙ ap not h) t)) i
    (rw (bit-false (above y y) (s ∙ k), bit-true (above x y) (o ∙ ap not h)) (omega arith)) in omega arith))

tail-order : {X : Type 0} (own : Bool) (above : X → X → Bool) (x : X) (xs : List X) → IsOrder own above (x ∷ xs) → IsOrder own above xs
tail-order own above x xs o = record {
  itself = λ y i. o.itself y (inr i);
  chain = λ a b c i j k. o.chain a b c (inr i) (inr j) (inr k);
  either = o.either.1;
}

-- a sum over the ranks is a sum over as many numbers from 0 (from 1, where each is above itself)
pub rank-sum : {X : Type 0} (own : Bool) (above : X → X → Bool) (xs : List X) → IsOrder own above xs → (f : ℕ → ℕ) →
    total (λ x. f (rank' above xs x)) xs ≡ sum_from f (bit own) (length xs)
rank-sum own above [] o f = refl
rank-sum own above (x ∷ xs) o f =
    let k = rank' above xs x in
    let first : f (bit (above x x) + k) ≡ f (bit own + k) = ap (λ b. f (bit b + k)) (o.itself x (inl refl)) in
    let rest : total (λ y. f (bit (above y x) + rank' above xs y)) xs ≡ total (λ y. shift f (bit own + k) (rank' above xs y)) xs =
    total-same (λ y. f (bit (above y x) + rank' above xs y)) (λ y. shift f (bit own + k) (rank' above xs y)) xs
    (λ y i. ap (λ b. f (bit b + rank' above xs y))
    (rank-step own above xs x y i (in-all (λ z. above x z ≡ not (above z x)) xs y o.either.0 i) (o.itself y (inr i))
    (λ z j. o.chain y x z (inr i) (inl refl) (inr j)) (λ z j. o.chain x y z (inl refl) (inr i) (inr j))
    (above y x) own refl refl)) in
    let ih = rank-sum own above xs (tail-order own above x xs o) (shift f (bit own + k)) in
    let m = span-shift f (bit own) k (length xs) (rank-most (above x) xs) in
    omega arith

-- ---- even and odd ranks
abbrev pub evens : ℕ → ℕ
evens n = bit (is_even n)

abbrev pub odds : ℕ → ℕ
odds n = bit (not (is_even n))

pub even-is : (n : ℕ) → n % 2 ≡ 0 → is_even n ≡ true
even-is n h = ap (λ k. eqb k 0) h

pub odd-is : (n : ℕ) → n % 2 ≡ 1 → is_even n ≡ false
odd-is n h = ap (λ k. eqb k 0) h

next-by : (n : ℕ) → (n % 2 ≡ 0) ⊎ (n % 2 ≡ 1) → is_even (suc n) ≡ not (is_even n)
next-by n (inl h) = odd-is (suc n) (omega arith) ∙ sym (ap not (even-is n h))
next-by n (inr h) = even-is (suc n) (omega arith) ∙ sym (ap not (odd-is n h))

pub even-next : (n : ℕ) → is_even (suc n) ≡ not (is_even n)
even-next n = next-by n (even_or_odd n)

span-parity-by : (n e o : ℕ) → e ≡ o + n % 2 → (n % 2 ≡ 0) ⊎ (n % 2 ≡ 1) → e + evens n ≡ (o + odds n) + suc n % 2
span-parity-by n e o h (inl k) = let a = ap bit (even-is n k) in let b = ap (λ t. bit (not t)) (even-is n k) in omega arith
span-parity-by n e o h (inr k) = let a = ap bit (odd-is n k) in let b = ap (λ t. bit (not t)) (odd-is n k) in omega arith

zero-plus : (f : ℕ → ℕ) (n : ℕ) → f (0 + n) ≡ f n
zero-plus f n = ap f (omega arith)

-- among 0, .., n - 1
pub span-parity : (n : ℕ) → sum_from evens 0 n ≡ sum_from odds 0 n + n % 2
span-parity zero = refl
span-parity (suc n) =
    let a = span-parity-by n (sum_from evens 0 n) (sum_from odds 0 n) (span-parity n) (even_or_odd n) in
    let b = zero-plus evens n in let c = zero-plus odds n in omega arith

one-plus : (n : ℕ) → is_even (1 + n) ≡ not (is_even n)
one-plus n = (let e : is_even (1 + n) ≡ is_even (suc n) = ap is_even (omega arith) in e) ∙ even-next n

-- among 1, .., n
span-parity-one : (n : ℕ) → (sum_from evens 1 n ≡ sum_from odds 0 n) × (sum_from odds 1 n ≡ sum_from evens 0 n)
span-parity-one zero = (refl, refl)
span-parity-one (suc n) =
    let h = span-parity-one n in
    let a = ap bit (one-plus n) in let b = ap (λ t. bit (not t)) (one-plus n) ∙ ap bit (not-not (is_even n)) in
    let c = zero-plus evens n in let d = zero-plus odds n in
    let x = h.0 in let y = h.1 in (omega arith, omega arith)

-- in a strict order, as many members have an even rank as have an odd one, or one more
pub rank-parity : {X : Type 0} (above : X → X → Bool) (xs : List X) → IsOrder false above xs →
    total (λ x. evens (rank' above xs x)) xs ≡ total (λ x. odds (rank' above xs x)) xs + length xs % 2
rank-parity above xs o =
    let a = rank-sum false above xs o evens in let b = rank-sum false above xs o odds in let c = span-parity (length xs) in omega arith

-- where each is above itself, it is the other way round
pub rank-parity-own : {X : Type 0} (above : X → X → Bool) (xs : List X) → IsOrder true above xs →
    total (λ x. odds (rank' above xs x)) xs ≡ total (λ x. evens (rank' above xs x)) xs + length xs % 2
rank-parity-own above xs o =
    let a = rank-sum true above xs o evens in let b = rank-sum true above xs o odds in let c = span-parity (length xs) in
    let d = span-parity-one (length xs) in let x = d.0 in let y = d.1 in omega arith

-- ---- in std's words
rank-same : {X : Type 0} (above : X → X → Bool) (xs : List X) (x : X) → rank' above xs x ≡ rank above xs x
rank-same above xs x = total-is (λ y. bit (above x y)) xs

pub rank_law : {X : Type 0} (above : X → X → Bool) (xs : List X) → IsOrder false above xs → (f : ℕ → ℕ) → sum_by (λ x. f (rank above xs x)) xs ≡ sum_from f 0 (length xs)
rank_law above xs o f =
    sym (total-is (λ x. f (rank above xs x)) xs) ∙ total-same (λ x. f (rank above xs x)) (λ x. f (rank' above xs x)) xs (λ x i. ap f (sym (rank-same above xs x))) ∙ rank-sum false above xs o f

pub rank_parity_law : {X : Type 0} (above : X → X → Bool) (xs : List X) → IsOrder false above xs → count_by (λ x. is_even (rank above xs x)) xs ≡ count_by (λ x. not (is_even (rank above xs x))) xs + length xs % 2
rank_parity_law above xs o =
    let a = sym (total-is (λ x. bit (is_even (rank above xs x))) xs) ∙ total-same (λ x. bit (is_even (rank above xs x))) (λ x. evens (rank' above xs x)) xs (λ x i. ap evens (sym (rank-same above xs x))) in
    let b = sym (total-is (λ x. bit (not (is_even (rank above xs x)))) xs) ∙ total-same (λ x. bit (not (is_even (rank above xs x)))) (λ x. odds (rank' above xs x)) xs (λ x i. ap odds (sym (rank-same above xs x))) in
    let c = rank-parity above xs o in omega arith

-- ---- the first edge in an order
pub record First {X : Type 0} (above : X → X → Bool) (m : X) (xs : List X) : Type 0 where
  pub here : In m xs
  pub first : (y : X) → In y xs → (y ≡ m) ⊎ (above m y ≡ true)

first-head-by : {X : Type 0} (above : X → X → Bool) (x : X) (xs : List X) (m : X) → IsOrder false above (x ∷ xs) → First above m xs → above x m ≡ true → (y : X) → In y xs → (y ≡ m) ⊎ (above m y ≡ true) → (y ≡ x) ⊎ (above x y ≡ true)
first-head-by above x xs m o f h y i (inl e) = inr (subst (λ w. above x w ≡ true) (sym e) h)
first-head-by above x xs m o f h y i (inr k) = inr (o.chain x m y (inl refl) (inr f.here) (inr i) h k)

first-head : {X : Type 0} (above : X → X → Bool) (x : X) (xs : List X) (m : X) → IsOrder false above (x ∷ xs) → First above m xs → above x m ≡ true → (y : X) → In y (x ∷ xs) → (y ≡ x) ⊎ (above x y ≡ true)
first-head above x xs m o f h y (inl e) = inl e
first-head above x xs m o f h y (inr i) = first-head-by above x xs m o f h y i (f.first y i)

first-tail : {X : Type 0} (above : X → X → Bool) (x : X) (xs : List X) (m : X) → First above m xs → above m x ≡ true → (y : X) → In y (x ∷ xs) → (y ≡ m) ⊎ (above m y ≡ true)
first-tail above x xs m f h y (inl e) = inr (subst (λ w. above m w ≡ true) (sym e) h)
first-tail above x xs m f h y (inr i) = f.first y i

first-step : {X : Type 0} (above : X → X → Bool) (x : X) (xs : List X) (m : X) → IsOrder false above (x ∷ xs) → First above m xs → (b : Bool) → above x m ≡ b → (m : X) × First above m (x ∷ xs)
first-step above x xs m o f true h = (x, record { here = inl refl; first = first-head above x xs m o f h })
first-step above x xs m o f false h =
    (m, record { here = inr f.here; first = first-tail above x xs m f (true_from_not (above x m) (above m x) (in-all (λ y. above x y ≡ not (above y x)) xs m o.either.0 f.here) h) })

strict-tail-order : {X : Type 0} (above : X → X → Bool) (x : X) (xs : List X) → IsOrder false above (x ∷ xs) → IsOrder false above xs
strict-tail-order above x xs o = record {
  itself = λ y i. o.itself y (inr i);
  chain = λ a b c i j k. o.chain a b c (inr i) (inr j) (inr k);
  either = o.either.1;
}

only-one : {X : Type 0} (above : X → X → Bool) (x y : X) → In y (x ∷ []) → (y ≡ x) ⊎ (above x y ≡ true)
only-one above x y (inl e) = inl e
only-one above x y (inr i) = absurd i

find-first : {X : Type 0} (above : X → X → Bool) (x : X) (xs : List X) → IsOrder false above (x ∷ xs) → (m : X) × First above m (x ∷ xs)
find-first above x [] o = (x, record { here = inl refl; first = only-one above x })
find-first above x (y ∷ ys) o = let m = find-first above y ys (strict-tail-order above x (y ∷ ys) o) in first-step above x (y ∷ ys) m.0 o m.1 (above x m.0) refl

pub first_exists : {X : Type 0} (above : X → X → Bool) (xs : List X) (x : X) → In x xs → IsOrder false above xs → (m : X) × First above m xs
first_exists above [] x i o = absurd i
first_exists above (y ∷ ys) x i o = find-first above y ys o
