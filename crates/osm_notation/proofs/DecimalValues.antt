-- What the digits of a rest are worth, with their zeros at the end and without.
use Rattle.std.proofs.Common.{Bool, List, [], ap, arith, false, if◌then◌else◌, length, refl, replicate, sym, true, zero, suc, ℕ, ◌%◌, ◌*◌, ◌+◌, ◌++◌, ◌-◌, ◌/◌, ◌<◌, ◌==◌, ◌^◌, ◌∙◌, ◌∷◌, ◌≡◌, ◌≤◌}
use Rattle.std.specs.Char.{digit_value}
use Rattle.std.specs.List.{list_all}
use Rattle.std.specs.Str.Parse.{AllDigits, digits_value_after}
use Rattle.std.proofs.lemmas.Bool.{and_parts, eqb-true}
use Rattle.std.proofs.lemmas.Nat.{div_below, mod_below, div-add-mod'}
use Rattle.std.proofs.lemmas.Str.{digit_value_digit}
use Rattle.std.proofs.Math.Nat.{pow-suc}
use Rattle.osm_notation.specs.Decimal.{last_digits, without_end_zeros}

-- ---- digits in a row

-- what stands in front counts for its power of ten
place-value : (before q r p : ℕ) → (before * 10 + q) * p + r ≡ before * (p * 10) + (q * p + r)
place-value before q r p = omega arith

pub value-append : (before : ℕ) (xs ys : List ℕ) → digits_value_after 10 before (xs ++ ys) ≡ digits_value_after 10 (digits_value_after 10 before xs) ys
value-append before [] ys = refl
value-append before (x ∷ xs) ys = value-append (before * 10 + digit_value x) xs ys

pub value-zeros : (before m : ℕ) → digits_value_after 10 before (replicate m 48) ≡ before * 10 ^ m
value-zeros before zero = omega arith
value-zeros before (suc m) =
    let next : before * 10 + digit_value 48 ≡ before * 10 = omega (arith, digit_value_digit 48 (omega arith, omega arith)) in
    ap (λ (v : ℕ). digits_value_after 10 v (replicate m 48)) next ∙ value-zeros (before * 10) m ∙ (let e : before * 10 * 10 ^ m ≡ before * (10 ^ m * 10) = omega arith in e) ∙ ap (λ (p : ℕ). before * p) (sym (pow-suc 10 m))

-- ---- the last digits of a number

pub some-power : (k : ℕ) → 0 < 10 ^ k
some-power zero = omega arith
some-power (suc k) = omega (arith, pow-suc 10 k, some-power k)

first-digit : (k n : ℕ) → n < 10 ^ suc k → n / 10 ^ k < 10
first-digit k n below = div_below n (10 ^ k) 10 (some-power k) (omega (arith, below, pow-suc 10 k))

digit-worth : (d : ℕ) → d < 10 → digit_value (48 + d) ≡ d
digit-worth d low = omega (arith, digit_value_digit (48 + d) (omega arith, omega arith))

pub digits-last : (k n : ℕ) → n < 10 ^ k → AllDigits 10 (last_digits k n)
unfolding last_digits
digits-last zero n below = tt
digits-last (suc k) n below =
    let low = first-digit k n below in
    let worth = digit-worth (n / 10 ^ k) low in
    (omega arith, digits-last k (n % 10 ^ k) (mod_below n (10 ^ k) (some-power k)))

pub length-last : (k n : ℕ) → length (last_digits k n) ≡ k
unfolding last_digits
length-last zero n = refl
length-last (suc k) n = ap suc (length-last k (n % 10 ^ k))

pub value-last : (k n before : ℕ) → n < 10 ^ k → digits_value_after 10 before (last_digits k n) ≡ before * 10 ^ k + n
unfolding last_digits
value-last zero n before below = omega arith
value-last (suc k) n before below =
    let q = n / 10 ^ k in
    let whole : q * 10 ^ k + n % 10 ^ k ≡ n = div-add-mod' n (10 ^ k) in
    ap (λ (d : ℕ). digits_value_after 10 (before * 10 + d) (last_digits k (n % 10 ^ k))) (digit-worth q (first-digit k n below))
    ∙ value-last k (n % 10 ^ k) (before * 10 + q) (mod_below n (10 ^ k) (some-power k))
    ∙ place-value before q (n % 10 ^ k) (10 ^ k)
    ∙ ap (λ (m : ℕ). before * (10 ^ k * 10) + m) whole
    ∙ ap (λ (m : ℕ). before * m + n) (sym (pow-suc 10 k))

-- ---- zeros at the end

abbrev is_zero : ℕ → Bool
is_zero d = d == 48

zeros : (k : ℕ) (ds : List ℕ) → list_all is_zero ds ≡ true → length ds ≤ k → replicate k 48 ≡ ds ++ replicate (k - length ds) 48
zeros k [] all le = let same : k ≡ k - 0 = omega arith in ap (λ (m : ℕ). replicate m 48) same
zeros zero (d ∷ ds) all le = absurd (omega arith)
zeros (suc k) (d ∷ ds) all le =
    let parts = and_parts (is_zero d) (list_all is_zero ds) all in
    let less : suc k - suc (length ds) ≡ k - length ds = omega arith in
    ap (λ (xs : List ℕ). 48 ∷ xs) (zeros k ds parts.1 (omega arith))
    ∙ ap (λ (x : ℕ). x ∷ ds ++ replicate (k - length ds) 48) (sym (eqb-true d 48 parts.0))
    ∙ ap (λ (m : ℕ). d ∷ ds ++ replicate m 48) (sym less)

-- zeros that are put behind make up for those that were taken off
pub padded : (k : ℕ) (ds : List ℕ) → length ds ≤ k → without_end_zeros ds ++ replicate (k - length (without_end_zeros ds)) 48 ≡ ds ++ replicate (k - length ds) 48
unfolding without_end_zeros
padded k [] le = refl
padded zero (d ∷ ds) le = absurd (omega arith)
padded (suc k) (d ∷ ds) le = by (list_all is_zero (d ∷ ds)) refl (padded k ds (omega arith))
  where
    by : (b : Bool) → list_all is_zero (d ∷ ds) ≡ b → without_end_zeros ds ++ replicate (k - length (without_end_zeros ds)) 48 ≡ ds ++ replicate (k - length ds) 48
        → (if b then [] else d ∷ without_end_zeros ds) ++ replicate (suc k - length (if b then [] else d ∷ without_end_zeros ds)) 48 ≡ d ∷ ds ++ replicate (suc k - length (d ∷ ds)) 48
    by true all rest = let same : suc k - 0 ≡ suc k = omega arith in ap (λ (m : ℕ). replicate m 48) same ∙ zeros (suc k) (d ∷ ds) all le
    by false some rest =
        let one : suc k - suc (length (without_end_zeros ds)) ≡ k - length (without_end_zeros ds) = omega arith in
        let two : suc k - suc (length ds) ≡ k - length ds = omega arith in
        ap (λ (m : ℕ). d ∷ without_end_zeros ds ++ replicate m 48) one ∙ ap (λ (xs : List ℕ). d ∷ xs) rest ∙ ap (λ (m : ℕ). d ∷ ds ++ replicate m 48) (sym two)

pub length-without : (ds : List ℕ) → length (without_end_zeros ds) ≤ length ds
unfolding without_end_zeros
length-without [] = omega arith
length-without (d ∷ ds) = by (list_all is_zero (d ∷ ds)) (length-without ds)
  where
    by : (b : Bool) → length (without_end_zeros ds) ≤ length ds → length (if b then [] else d ∷ without_end_zeros ds) ≤ suc (length ds)
    by true le = omega arith
    by false le = omega arith

pub digits-without : (ds : List ℕ) → AllDigits 10 ds → AllDigits 10 (without_end_zeros ds)
unfolding without_end_zeros
digits-without [] h = tt
digits-without (d ∷ ds) h = by (list_all is_zero (d ∷ ds)) (h.0, digits-without ds h.1)
  where
    by : (b : Bool) → AllDigits 10 (d ∷ without_end_zeros ds) → AllDigits 10 (if b then [] else d ∷ without_end_zeros ds)
    by true more = tt
    by false more = more

-- the decimals of a rest below 10 ^ 7 behind what is worth so much are worth, with the zeros that were taken off, that and the rest
pub value-rest : (before rest : ℕ) → rest < 10 ^ 7 →
    let decimals = without_end_zeros (last_digits 7 rest) in
    digits_value_after 10 before decimals * 10 ^ (7 - length decimals) ≡ before * 10 ^ 7 + rest
value-rest before rest below =
    let ds = last_digits 7 rest in
    let decimals = without_end_zeros ds in
    let size = length-last 7 rest in
    let full : 7 - length ds ≡ 0 = omega arith in
    sym (value-zeros (digits_value_after 10 before decimals) (7 - length decimals))
    ∙ sym (value-append before decimals (replicate (7 - length decimals) 48))
    ∙ ap (digits_value_after 10 before) (padded 7 ds (omega arith) ∙ ap (λ (m : ℕ). ds ++ replicate m 48) full)
    ∙ value-append before ds []
    ∙ value-last 7 rest before below
