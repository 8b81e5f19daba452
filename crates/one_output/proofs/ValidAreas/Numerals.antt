-- Printed numbers spell their units.
use Rattle.std.proofs.Common.{Bool, List, [], ap, append-nil, append_assoc, subst, arith, codes, false, get_or, if◌then◌else◌, length, refl, sym, true, ℕ, ℤ, pos, negsuc, ◌%◌, ◌*◌, ◌+◌, ◌++◌, ◌-◌, ◌/◌, ◌<◌, ◌==◌, ◌^◌, ◌∙◌, ◌∷◌, ◌≡◌, ◌≤◌, zero, suc}
use Rattle.std.specs.Prelude.{decimal, unsigned_abs}
use Rattle.std.specs.Str.Parse.{digits_value, digits_value_after}
use Rattle.std.proofs.lemmas.Bool.{eqb-true, eqb-false}
use Rattle.std.proofs.lemmas.Fmt.{decimal_digit, decimal_is_IsNumeral, first_decimal}
use Rattle.std.proofs.lemmas.Nat.{pow-add}
use Rattle.osm_notation.specs.Decimal.{last_digits, without_end_zeros, fraction_text, magnitude_text, units_text}
use Rattle.one_output.specs.ValidAreas.Numeral.{AreOnes, HasNoLeadingZero, SpellsMagnitude, SpellsUnits, whole, with_decimals, plain, minus}
use Rattle.osm_notation.proofs.DecimalValues.{digits-last, digits-without, length-last, length-without, value-append, value-rest}

-- the digits of a number
no-zero-in-front : (ds : List ℕ) → 48 < get_or ds 0 0 → HasNoLeadingZero ds
no-zero-in-front [] some = tt
no-zero-in-front (d ∷ ds) some = λ is. absurd (omega arith)

are-ones : (n : ℕ) → n < 2 ^ 64 → AreOnes (decimal n)
are-ones zero small = ((decimal_is_IsNumeral 0 small).0, subst HasNoLeadingZero (sym (decimal_digit 0 (omega arith))) (λ is. refl))
are-ones (suc n) small = ((decimal_is_IsNumeral (suc n) small).0, no-zero-in-front (decimal (suc n)) (first_decimal (suc n) (omega arith) small))

-- a power of ten taken to the other side
moved : (v k n : ℕ) → k ≤ 7 → v * 10 ^ (7 - k) ≡ n → n * 10 ^ k ≡ v * 10 ^ 7
moved v k n few is =
    let power : 10 ^ (7 - k) * 10 ^ k ≡ 10 ^ 7 = sym (pow-add 10 (7 - k) k) ∙ ap (λ (m : ℕ). 10 ^ m) (let e : 7 - k + k ≡ 7 = omega arith in e) in
    ap (λ (m : ℕ). m * 10 ^ k) (sym is) ∙ (let e : v * 10 ^ (7 - k) * 10 ^ k ≡ v * (10 ^ (7 - k) * 10 ^ k) = omega arith in e) ∙ ap (λ (m : ℕ). v * m) power

-- no decimals at all are worth nothing
some-decimals : (before rest : ℕ) (ds : List ℕ) → 0 < rest → digits_value_after 10 before ds * 10 ^ (7 - length ds) ≡ before * 10 ^ 7 + rest → 0 < length ds
some-decimals before rest [] some is = absurd (omega arith)
some-decimals before rest (d ∷ ds) some is = omega arith

pos-of : (n : ℕ) → (n == 0) ≡ false → 0 < n
pos-of n h = let e = eqb-false n 0 h in omega arith

magnitude-by : (n : ℕ) → n < 2 ^ 64 → (b : Bool) → (n % 10 ^ 7 == 0) ≡ b → SpellsMagnitude (decimal (n / 10 ^ 7) ++ (if b then [] else codes "." ++ without_end_zeros (last_digits 7 (n % 10 ^ 7)))) n
magnitude-by n small true none =
    let told = decimal_is_IsNumeral (n / 10 ^ 7) (omega arith) in
    let is = eqb-true (n % 10 ^ 7) 0 none in
    let worth : n ≡ digits_value 10 (decimal (n / 10 ^ 7)) * 10 ^ 7 = omega (arith, told.1) in
    subst (λ (text : List ℕ). SpellsMagnitude text n) (sym (append-nil (decimal (n / 10 ^ 7)))) (whole (are-ones (n / 10 ^ 7) (omega arith)) worth)
magnitude-by n small false some =
    let rest = n % 10 ^ 7 in
    let ones = decimal (n / 10 ^ 7) in
    let decimals = without_end_zeros (last_digits 7 rest) in
    let below : rest < 10 ^ 7 = omega arith in
    let above : 0 < rest = pos-of rest some in
    let told = decimal_is_IsNumeral (n / 10 ^ 7) (omega arith) in
    let full = value-rest (digits_value 10 ones) rest below in
    let few : length decimals ≤ 7 = omega (arith, length-without (last_digits 7 rest), length-last 7 rest) in
    let is : digits_value 10 ones * 10 ^ 7 + rest ≡ n = omega (arith, told.1) in
    with_decimals ones decimals (sym (append_assoc ones (codes ".") decimals)) (are-ones (n / 10 ^ 7) (omega arith)) (some-decimals (digits_value 10 ones) rest decimals above full, digits-without (last_digits 7 rest) (digits-last 7 rest below))
    (moved (digits_value_after 10 (digits_value 10 ones) decimals) (length decimals) n few (full ∙ is)
    ∙ ap (λ (v : ℕ). v * 10 ^ 7) (sym (value-append 0 ones decimals)))

pub magnitude_spelled : (n : ℕ) → n < 2 ^ 64 → SpellsMagnitude (magnitude_text n) n
unfolding magnitude_text fraction_text
magnitude_spelled n small = magnitude-by n small (n % 10 ^ 7 == 0) refl

pub units_spelled : (z : ℤ) → unsigned_abs z < 2 ^ 64 → SpellsUnits (units_text z) z
units_spelled (pos n) small = plain n (magnitude_spelled n small) refl
units_spelled (negsuc n) small = minus (suc n) (magnitude_text (suc n)) refl (magnitude_spelled (suc n) small) refl
