-- The digits of an escape, one more at a time, and what they stand for.
use Rattle.std.proofs.Common.{◌≡◌, ℕ, ◌+◌, ◌*◌, ◌<◌, ◌≤◌, min, true, false, leb, ◌⊎◌, List, length, get_or, take, Option, Some, None, MatchOption, SomeIff, refl, sym, ap, ◌∙◌, inl, inr, arith}
use Rattle.std.specs.Char.{digit_value, IsScalar, InScalarRange, OutOfScalarRange}
use Rattle.std.specs.List.{list_all}
use Rattle.std.specs.Str.Parse.{digits_value}
use Rattle.std.proofs.lemmas.Int.Digits.{digits_value_more}
use Rattle.std.proofs.lemmas.List.{take_all}
use Rattle.std.proofs.lemmas.List.Folds.{list_all_more, list_all_at}
use Rattle.std.proofs.lemmas.Bool.{cases_lt, and_from, and_left, and_right, or_left, or_right, cond-false, lt-ltb, le-ltb, le-leb, lt-leb}
use Rattle.opl_reader.specs.StringReading.{is_hex, is_scalar, code_point}

-- the digits so far are digits, and v is what they are worth, as far as the machine counts
pub record ReadHex (bytes : List ℕ) (i v : ℕ) : Type 0 where
  pub digits : list_all is_hex (take i bytes) ≡ true
  pub worth : v ≡ min (digits_value 16 (take i bytes)) 4294967295

step : (n d m : ℕ) → min (min (min n m * 16) m + d) m ≡ min (n * 16 + d) m
step n d m = omega arith

pub hex-more : (bytes : List ℕ) (i v d w : ℕ) → i < length bytes → digit_value (get_or bytes i 0) < 16 → d ≡ digit_value (get_or bytes i 0)
    → ReadHex bytes i v → w ≡ min (min (v * 16) 4294967295 + d) 4294967295 → ReadHex bytes (i + 1) w
hex-more bytes i v d w lt is e so_far next = record {
  digits = list_all_more is_hex bytes i 0 lt ∙ and_from _ _ so_far.digits (lt-ltb _ _ is);
  worth = next ∙ rw (so_far.worth, e, digits_value_more 16 bytes i lt) (step (digits_value 16 (take i bytes)) (digit_value (get_or bytes i 0)) 4294967295);
}

pub no_hex : (bytes : List ℕ) (i : ℕ) → i < length bytes → (digit_value (get_or bytes i 0) < 16 → ⊥) → None ≡ code_point bytes
unfolding code_point
no_hex bytes i lt no_digit =
    let past : 16 ≤ digit_value (get_or bytes i 0) = elim (cases_lt (digit_value (get_or bytes i 0)) 16) [ inl yes_is ↦ absurd (no_digit yes_is) | inr le ↦ le ] in
    let h : list_all is_hex bytes ≡ false = list_all_at is_hex bytes i 0 lt (le-ltb _ _ past) in
    sym (cond-false _ _ _ (and_left _ _ (and_right _ _ h)))

scalar-in : (c : ℕ) → InScalarRange c → is_scalar c ≡ true
scalar-in c (inl lt) = or_left _ _ (lt-ltb _ _ lt)
scalar-in c (inr r) = or_right _ _ (and_from _ _ (le-leb _ _ r.0) (le-leb _ _ r.1))

scalar-out : (c : ℕ) → OutOfScalarRange c → is_scalar c ≡ false
scalar-out c (inl r) = rw (le-ltb c 55296 (omega (arith, r.0)), lt-leb 57344 c (omega (arith, r.1))) refl
scalar-out c (inr le) = rw (le-ltb c 55296 (omega arith), lt-leb c 1114111 (omega arith)) (and_right (leb 57344 c) false refl)

scalar-big : (c : ℕ) → 1114112 ≤ c → is_scalar c ≡ false
scalar-big c le = scalar-out c (inr le)

some_code : (v code : ℕ) → code ≡ min v 4294967295 → InScalarRange code → (code ≡ v) × (is_scalar v ≡ true)
some_code v code e (inl lt) = (omega arith, let k : v ≡ code = omega arith in rw k (scalar-in code (inl lt)))
some_code v code e (inr r) = let le : code ≤ 1114111 = r.1 in (omega arith, let k : v ≡ code = omega arith in rw k (scalar-in code (inr r)))

none_code : (v code : ℕ) → code ≡ min v 4294967295 → OutOfScalarRange code → is_scalar v ≡ false
none_code v code e (inl r) = let le : code ≤ 57343 = r.1 in let k : v ≡ code = omega arith in rw k (scalar-out code (inl r))
none_code v code e (inr le) = scalar-big v (omega arith)

pub code_end : (bytes : List ℕ) (code : ℕ) (r : Option ℕ) → 0 < length bytes → length bytes ≤ 6 → list_all is_hex bytes ≡ true → code ≡ min (digits_value 16 bytes) 4294967295
    → SomeIff r (IsScalar code) code → MatchOption r (OutOfScalarRange code) (λ _. InScalarRange code) → r ≡ code_point bytes
unfolding code_point
code_end bytes code None more few hex worth iff range = rw (lt-ltb _ _ more, le-leb _ _ few, hex, none_code _ code worth range) refl
code_end bytes code (Some c) more few hex worth iff range =
    let s = some_code (digits_value 16 bytes) code worth range in
    rw (lt-ltb _ _ more, le-leb _ _ few, hex, s.1) (ap (λ (x : ℕ). Some x) (iff.1 ∙ s.0))

pub code_all : (bytes : List ℕ) (i code : ℕ) (r : Option ℕ) → length bytes ≤ i → 0 < length bytes → length bytes ≤ 6 → ReadHex bytes i code
    → SomeIff r (IsScalar code) code → MatchOption r (OutOfScalarRange code) (λ _. InScalarRange code) → r ≡ code_point bytes
code_all bytes i code r le more few so_far iff range =
    let all : take i bytes ≡ bytes = take_all i bytes le in
    code_end bytes code r more few (rw all at so_far.digits) (rw all at so_far.worth) iff range

pub no_code : (bytes : List ℕ) → (length bytes ≡ 0) ⊎ (6 < length bytes) → None ≡ code_point bytes
unfolding code_point
no_code bytes (inl none) = sym (cond-false _ _ _ (and_left _ _ (and_left _ _ (and_left _ _ (le-ltb 0 (length bytes) (omega arith))))))
no_code bytes (inr many) = sym (cond-false _ _ _ (and_left _ _ (and_left _ _ (and_right _ _ (lt-leb (length bytes) 6 many)))))
