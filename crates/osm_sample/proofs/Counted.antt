-- Lists that are made number by number.
use Rattle.std.proofs.Common.{◌≡◌, ◌∙◌, refl, sym, ap, subst, ℕ, zero, suc, ◌+◌, ◌*◌, ◌<◌, ◌≤◌, add-one, arith, List, [], ◌∷◌, ◌++◌, length, append-nil, map, All}
use Rattle.std.specs.List.{flat_map}
use Rattle.std.proofs.lemmas.Grind.{flat_map-append}
use Rattle.std.proofs.lemmas.List.{length-append, length-map, map-append}
use Rattle.std.proofs.lemmas.List.Elements.{All-append, All-cons, All-nil}
use Rattle.osm_sample.specs.Numbers.{numbers}

-- ---- one number more

module _ {A : Type 0} (f : ℕ → List A) where
  pub flat_map-suc : (k : ℕ) → flat_map f (numbers (suc k)) ≡ flat_map f (numbers k) ++ f k
  flat_map-suc k = flat_map-append f (numbers k) (k ∷ []) ∙ ap (λ (xs : List A). flat_map f (numbers k) ++ xs) (append-nil (f k))

module _ {A : Type 0} (f : ℕ → A) where
  pub map-suc : (k : ℕ) → map f (numbers (suc k)) ≡ map f (numbers k) ++ f k ∷ []
  map-suc k = map-append f (numbers k) (k ∷ [])

-- ---- what holds of each

module _ {A : Type 0} (P : A → Type 0) where
  pub all-of_map : (f : ℕ → A) (n : ℕ) → ((i : ℕ) → i < n → P (f i)) → All P (map f (numbers n))
  all-of_map f zero each = All-nil P
  all-of_map f (suc n) each =
      subst (All P) (sym (map-suc f n))
      (All-append P (map f (numbers n)) (f n ∷ []) (all-of_map f n (λ i low. each i (omega arith))) (All-cons P (f n) [] (each n (omega arith)) (All-nil P)))

  pub all-of_flat_map : (f : ℕ → List A) (n : ℕ) → ((i : ℕ) → i < n → All P (f i)) → All P (flat_map f (numbers n))
  all-of_flat_map f zero each = All-nil P
  all-of_flat_map f (suc n) each =
      subst (All P) (sym (flat_map-suc f n))
      (All-append P (flat_map f (numbers n)) (f n) (all-of_flat_map f n (λ i low. each i (omega arith))) (each n (omega arith)))

-- ---- how many there are

pub length-numbers : (n : ℕ) → length (numbers n) ≡ n
length-numbers zero = refl
length-numbers (suc n) = length-append (numbers n) (n ∷ []) ∙ ap (λ (m : ℕ). m + 1) (length-numbers n) ∙ add-one n

pub length-of_map : {A : Type 0} (f : ℕ → A) (n : ℕ) → length (map f (numbers n)) ≡ n
length-of_map f n = length-map (numbers n) f ∙ length-numbers n

-- at most c for each number
pub length-of_flat_map : {A : Type 0} (f : ℕ → List A) (c n : ℕ) → ((i : ℕ) → length (f i) ≤ c) → length (flat_map f (numbers n)) ≤ n * c
length-of_flat_map f c zero each = omega arith
length-of_flat_map {A} f c (suc n) each =
    let parts : length (flat_map f (numbers (suc n))) ≡ length (flat_map f (numbers n)) + length (f n) =
    ap (λ (xs : List A). length xs) (flat_map-suc f n) ∙ length-append (flat_map f (numbers n)) (f n) in
    let before = length-of_flat_map f c n each in
    let here = each n in
    omega arith
