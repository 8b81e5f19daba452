-- How many level parts have a location on them: of the numbers of a location, those that begin by it less those that end before it.
use Rattle.std.proofs.Common.{Bool, List, [], ap, arith, cond, count_by, false, length, map, nat_lt, refl, suc, sym, true, zero, ℕ, ◌&&◌, ◌+◌, ◌<◌, ◌∙◌, ◌∷◌, ◌≡◌, ◌≤◌}
use Rattle.std.specs.List.{AllWithin}
use Rattle.std.specs.Prelude.{IsPermutation, nat_le}
use Rattle.std.proofs.lemmas.List.Sorted.{sum_by-IsPermutation}
use Rattle.lists.proofs.ListsKit.{count_by-cons}
use Rattle.osm_lattice.specs.declared.loc.Loc.{Loc}
use Rattle.osm_lattice.specs.declared.seg.Seg.{Seg}
use Rattle.osm_sides.specs.PointSteps.{AreLevels, is_level_on, level_from, place_number}
use Rattle.osm_sides.specs.declared.levels.Levels.{Levels}
use Rattle.osm_sides.proofs.LevelParts.{level_in_order}

-- up to a place at which a test stops to pass it passes everywhere: the number of places
pub count_front : {X : Type 0} (p : X → Bool) (xs : List X) (i : ℕ) → AllWithin (λ x. p x ≡ true) xs 0 i → AllWithin (λ x. p x ≡ false) xs i (length xs) → i ≤ length xs → count_by p xs ≡ i
count_front p [] zero all none within = refl
count_front p [] (suc i) all none within = absurd (omega arith)
count_front p (x ∷ xs) zero all none within =
    let a = count_by-cons p x xs ∙ ap (λ b. cond {A = ℕ} b 1 0 + count_by p xs) (none 0 x (omega arith) (omega arith)) in
    let b = count_front p xs zero (λ k d h l. absurd (omega arith)) (λ k d h l. none (suc k) d (omega arith) (omega arith)) (omega arith) in
    omega arith
count_front p (x ∷ xs) (suc i) all none within =
    let a = count_by-cons p x xs ∙ ap (λ b. cond {A = ℕ} b 1 0 + count_by p xs) (all 0 x (omega arith) (omega arith)) in
    let b = count_front p xs i (λ k d h l. all (suc k) d (omega arith) (omega arith)) (λ k d h l. none (suc k) d (omega arith) (omega arith)) (omega arith) in
    omega arith

count-map : {X : Type 0} (q : ℕ → Bool) (f : X → ℕ) (xs : List X) → count_by q (map f xs) ≡ count_by (λ x. q (f x)) xs
count-map q f [] = refl
count-map q f (x ∷ xs) =
    count_by-cons q (f x) (map f xs) ∙ ap (λ n. cond {A = ℕ} (q (f x)) 1 0 + n) (count-map q f xs) ∙ sym (count_by-cons (λ x. q (f x)) x xs)

-- among numbers in another order
count-moved : {X : Type 0} (q : ℕ → Bool) (f : X → ℕ) (xs : List X) (ns : List ℕ) → IsPermutation (map f xs) ns → count_by q ns ≡ count_by (λ x. q (f x)) xs
count-moved q f xs ns same = sum_by-IsPermutation (λ n. cond (q n) 1 0) (map f xs) ns same ∙ count-map q f xs

-- one level part
one_part : (f t p : ℕ) (b c d : Bool) → nat_le f p ≡ b → nat_le p t ≡ c → nat_lt t p ≡ d → f ≤ t → cond {A = ℕ} (b && c) 1 0 + cond d 1 0 ≡ cond b 1 0
one_part f t p true true false g h k l = refl
one_part f t p true false true g h k l = refl
one_part f t p false c false g h k l = refl
one_part f t p true true true g h k l = absurd (let x : ⊥ = grind arith in x)
one_part f t p true false false g h k l = absurd (let x : ⊥ = grind arith in x)
one_part f t p false c true g h k l = absurd (let x : ⊥ = grind arith in x)

module _ (p : Loc) where
  begins_here : Seg → Bool
  begins_here s = nat_le (place_number (level_from s)) (place_number p)

  ends_before : Seg → Bool
  ends_before s = nat_lt (place_number s.b) (place_number p)

  all_parts : (segs : List Seg) → count_by (is_level_on p) segs + count_by (λ (s : Seg). nat_lt (place_number s.b) (place_number p)) segs ≡ count_by (λ s. nat_le (place_number (level_from s)) (place_number p)) segs
  all_parts [] = refl
  all_parts (s ∷ segs) =
      let one = one_part (place_number (level_from s)) (place_number s.b) (place_number p) _ _ _ refl refl refl (level_in_order p s) in
      let rest = all_parts segs in
      let a = count_by-cons (is_level_on p) s segs in
      let b = count_by-cons (λ (t : Seg). nat_lt (place_number t.b) (place_number p)) s segs in
      let c = count_by-cons (λ t. nat_le (place_number (level_from t)) (place_number p)) s segs in
      omega (arith, one, rest, a, b, c)

  pub level_count : (segs : List Seg) (levels : Levels) → AreLevels segs levels → (begun ended : ℕ) → count_by (λ n. nat_le n (place_number p)) levels.begins.items ≡ begun → count_by (λ n. nat_lt n (place_number p)) levels.ends.items ≡ ended →
      count_by (is_level_on p) segs + ended ≡ begun
  level_count segs levels are begun ended b e =
      let first = count-moved (λ n. nat_le n (place_number p)) (λ s. place_number (level_from s)) segs levels.begins.items are.begin in
      let last = count-moved (λ n. nat_lt n (place_number p)) (λ (s : Seg). place_number s.b) segs levels.ends.items are.end in
      let all = all_parts segs in
      omega (arith, first, last, all, b, e)

-- more begin than end where some are left
pub more_begun : (count begun ended : ℕ) → count + ended ≡ begun → nat_lt ended begun ≡ nat_lt 0 count
more_begun count begun ended e = grind arith
