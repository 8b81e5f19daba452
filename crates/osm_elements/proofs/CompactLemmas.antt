-- Numbers in few bytes, and differences.
use Rattle.std.proofs.Common.{◌≡◌, ◌∙◌, refl, sym, ap, ℕ, zero, suc, ◌+◌, ◌-◌, ◌*◌, ◌/◌, ◌%◌, ◌^◌, ◌<◌, ◌≤◌, true, false, ltb, List, [], ◌∷◌, ◌++◌, length, take, append_assoc, length-take, inl, inr, ℤ, pos, negsuc, arith, rules, w64, FitsSigned, to_z, of_z}
use Rattle.std.specs.Prelude.{◌==◌}
use Rattle.std.proofs.Math.Facts.{sfits_to_z, Fits-of_lt}
use Rattle.std.proofs.lemmas.Bool.{cases_lt, lt-ltb, le-ltb}
use Rattle.std.proofs.lemmas.List.{take-append-le}
use Rattle.std.proofs.lemmas.Int.{to_z-of_z}
use Rattle.osm_elements.specs.Compact.{digits_within, number_bytes, number_in, after_number, marked_bytes, marked_number, has_mark, folded, unfolded, difference, moved}

-- ---- the digits of a number

-- any limit that is no less than the number will do
same_within : (f g n : ℕ) → n ≤ f → n ≤ g → digits_within f n ≡ digits_within g n
same_within zero zero n a b = refl
same_within zero (suc g) n a b = rw (lt-ltb n 128 (omega arith)) refl
same_within (suc f) zero n a b = rw (lt-ltb n 128 (omega arith)) refl
same_within (suc f) (suc g) n a b =
    elim (cases_lt n 128) [
      | inl lt ↦ rw (lt-ltb n 128 lt) refl
      | inr le ↦ rw (le-ltb n 128 le) (ap (λ (ds : List ℕ). (128 + n % 128) ∷ ds) (same_within f g (n / 128) (omega arith) (omega arith)))
    ]

last_within : (f n : ℕ) → n < 128 → digits_within f n ≡ n ∷ []
last_within zero n lt = refl
last_within (suc f) n lt = rw (lt-ltb n 128 lt) refl

-- a number of one digit
pub last_digit : (n : ℕ) → n < 128 → number_bytes n ≡ n ∷ []
unfolding number_bytes
last_digit n lt = last_within n n lt

more_within : (f n : ℕ) → 128 ≤ n → n ≤ suc f → digits_within (suc f) n ≡ (128 + n % 128) ∷ digits_within (n / 128) (n / 128)
more_within f n le room = rw (le-ltb n 128 le) (ap (λ (ds : List ℕ). (128 + n % 128) ∷ ds) (same_within f (n / 128) (n / 128) (omega arith) (omega arith)))

-- a number of more digits
pub more_digits : (n : ℕ) → 128 ≤ n → number_bytes n ≡ (128 + n % 128) ∷ number_bytes (n / 128)
unfolding number_bytes
more_digits n le =
    let e : n ≡ suc (n - 1) = omega arith in
    same_within n (suc (n - 1)) n (omega arith) (omega arith) ∙ more_within (n - 1) n le (omega arith)

-- ---- what digits tell

record Tells (bytes more : List ℕ) (n : ℕ) : Type 0 where
  number : number_in bytes ≡ n
  behind : after_number bytes ≡ more

told_within : (f n : ℕ) (more : List ℕ) → n ≤ f → n < 2 ^ 64 → Tells (digits_within f n ++ more) more n
told_within zero n more le small = record { number = rw (lt-ltb n 128 (omega arith)) refl; behind = rw (lt-ltb n 128 (omega arith)) refl }
told_within (suc f) n more le small =
    elim (cases_lt n 128) [
      | inl lt ↦ rw (lt-ltb n 128 lt) (record { number = rw (lt-ltb n 128 lt) refl; behind = rw (lt-ltb n 128 lt) refl })
      | inr many ↦
          let rest = told_within f (n / 128) more (omega arith) (omega arith) in
          let high = rest.number in
          let byte : ltb (128 + n % 128) 128 ≡ false = le-ltb (128 + n % 128) 128 (omega arith) in
          rw (le-ltb n 128 many) (record { number = rw (byte, high) (omega arith); behind = rw byte rest.behind })
    ]

pub number_told : (n : ℕ) (more : List ℕ) → n < 2 ^ 64 → number_in (number_bytes n ++ more) ≡ n
unfolding number_bytes
number_told n more small = (told_within n n more (omega arith) small).number

pub behind_told : (n : ℕ) (more : List ℕ) → n < 2 ^ 64 → after_number (number_bytes n ++ more) ≡ more
unfolding number_bytes
behind_told n more small = (told_within n n more (omega arith) small).behind

-- ---- a number with a mark

pub record MarkTold (bytes more : List ℕ) (mark n : ℕ) : Type 0 where
  pub number : marked_number bytes ≡ n
  pub marked : has_mark bytes ≡ (mark == 1)
  pub behind : after_number bytes ≡ more

pub mark_told : (mark n : ℕ) (more : List ℕ) → mark < 2 → n < 2 ^ 64 → MarkTold (marked_bytes mark n ++ more) more mark n
mark_told mark n more two small =
    elim (cases_lt n 64) [
      | inl lt ↦
          let byte : ltb (2 * n + mark) 128 ≡ true = lt-ltb (2 * n + mark) 128 (omega arith) in
          let half : (2 * n + mark) / 2 ≡ n = omega arith in
          let last : (2 * n + mark) % 2 ≡ mark = omega arith in
          rw (lt-ltb n 64 lt) (record { number = rw byte half; marked = rw last refl; behind = rw byte refl })
      | inr many ↦
          let high = number_told (n / 64) more (omega arith) in
          let byte : ltb (128 + (2 * (n % 64) + mark)) 128 ≡ false = le-ltb (128 + (2 * (n % 64) + mark)) 128 (omega arith) in
          let last : (128 + (2 * (n % 64) + mark)) % 2 ≡ mark = omega arith in
          rw (le-ltb n 64 many) (record { number = rw (byte, high) (omega arith); marked = rw last refl; behind = rw byte (behind_told (n / 64) more (omega arith)) })
    ]

-- some bytes
pub some_marked : (mark n : ℕ) → 0 < length (marked_bytes mark n)
some_marked mark n = elim (cases_lt n 64) [
  | inl lt ↦ rw (lt-ltb n 64 lt) (omega arith)
  | inr le ↦ rw (le-ltb n 64 le) (omega arith)
]

pub number_small : (bytes : List ℕ) → number_in bytes < 2 ^ 64
number_small [] = omega arith
number_small (byte ∷ bytes) = elim (cases_lt byte 128) [
  | inl lt ↦ rw (lt-ltb byte 128 lt) (omega arith)
  | inr le ↦ rw (le-ltb byte 128 le) (omega arith)
]

pub after_shorter : (bytes : List ℕ) → length (after_number bytes) ≤ length bytes
after_shorter [] = omega arith
after_shorter (byte ∷ bytes) =
    let rest = after_shorter bytes in
    elim (cases_lt byte 128) [
      | inl lt ↦ rw (lt-ltb byte 128 lt) (omega arith)
      | inr le ↦ rw (le-ltb byte 128 le) (omega arith)
    ]

pub after_first : (byte : ℕ) (bytes : List ℕ) → length (after_number (byte ∷ bytes)) ≤ length bytes
after_first byte bytes =
    let rest = after_shorter bytes in
    elim (cases_lt byte 128) [
      | inl lt ↦ rw (lt-ltb byte 128 lt) (omega arith)
      | inr le ↦ rw (le-ltb byte 128 le) (omega arith)
    ]

-- ---- differences

pub folded_small : (bits : ℕ) → bits < 2 ^ 64 → folded bits < 2 ^ 64
unfolding folded
folded_small bits small = elim (cases_lt bits (2 ^ 63)) [
  | inl lt ↦ rw (lt-ltb bits (2 ^ 63) lt) (omega arith)
  | inr le ↦ rw (le-ltb bits (2 ^ 63) le) (omega arith)
]

unfolded_is : (bits : ℕ) → bits < 2 ^ 64 → unfolded (folded bits) ≡ bits
unfolding folded unfolded
unfolded_is bits small = elim (cases_lt bits (2 ^ 63)) [
  | inl lt ↦
      let even : (2 * bits) % 2 ≡ 0 = omega arith in
      rw (lt-ltb bits (2 ^ 63) lt, even) (omega arith)
  | inr le ↦
      let odd : (2 * (2 ^ 64 - 1 - bits) + 1) % 2 ≡ 1 = omega arith in
      rw (le-ltb bits (2 ^ 63) le, odd) (omega arith)
]

pub difference_small : (from to : ℤ) → difference from to < 2 ^ 64
unfolding difference
difference_small from to = folded_small _ (omega arith)

bits_back : (from to : ℕ) → from < 2 ^ 64 → to < 2 ^ 64 → (from + (to + (2 ^ 64 - from)) % 2 ^ 64) % 2 ^ 64 ≡ to
bits_back from to a b = omega arith

bits_small : (z : ℤ) → FitsSigned w64 z → of_z w64 z < 2 ^ 64
bits_small (pos n) fits = search (rules, fits)
bits_small (negsuc n) fits = omega arith

pub moved_back : (from to : ℤ) → FitsSigned w64 from → FitsSigned w64 to → moved from (difference from to) ≡ to
unfolding difference moved
moved_back from to a b =
    let f = bits_small from a in
    let t = bits_small to b in
    let bits : ℕ = (of_z w64 to + (2 ^ 64 - of_z w64 from)) % 2 ^ 64 in
    ap (λ (n : ℕ). to_z w64 ((of_z w64 from + n) % 2 ^ 64)) (unfolded_is bits (omega arith))
    ∙ ap (to_z w64) (bits_back (of_z w64 from) (of_z w64 to) f t)
    ∙ to_z-of_z w64 to b

pub moved_fits : (from : ℤ) (by : ℕ) → FitsSigned w64 (moved from by)
unfolding moved
moved_fits from by = sfits_to_z (Fits-of_lt (omega arith))

-- ---- a digit more

pub digit_more : (old bytes new : List ℕ) (left : ℕ) → 128 ≤ left → new ≡ bytes ++ (128 + left % 128) ∷ [] → bytes ++ number_bytes left ≡ old → new ++ number_bytes (left / 128) ≡ old
digit_more old bytes new left le pushed whole =
    ap (λ (b : List ℕ). b ++ number_bytes (left / 128)) pushed
    ∙ append_assoc bytes ((128 + left % 128) ∷ []) (number_bytes (left / 128))
    ∙ ap (λ (ds : List ℕ). bytes ++ ds) (sym (more_digits left le))
    ∙ whole

pub still_front : (old bytes new more : List ℕ) → new ≡ bytes ++ more → take (length old) bytes ≡ old → take (length old) new ≡ old
still_front old bytes new more pushed kept =
    let n = ap (λ (xs : List ℕ). length xs) kept in
    let m = length-take (length old) bytes in
    ap (take (length old)) pushed ∙ take-append-le (length old) bytes more (omega arith) ∙ kept
