-- Written numbers: their bytes, and that they spell ids and coordinates.
use Rattle.std.proofs.Common.{◌≡◌, ◌∙◌, ◌+◌, ◌-◌, ◌≤◌, ◌<◌, ◌^◌, ◌*◌, ◌/◌, ◌%◌, ◌==◌, ℕ, suc, ℤ, pos, negsuc, Bool, true, false, if◌then◌else◌, List, [], ◌∷◌, ◌++◌, length, replicate, refl, sym, ap, append-nil, inl, inr, arith, All}
use Rattle.std.specs.Prelude.{decimal, unsigned_abs}
use Rattle.std.specs.Char.{IsAsciiDigit}
use Rattle.std.specs.Str.Parse.{AllDigits, digits_value, digits_value_after}
use Rattle.std.specs.Fmt.{signed_decimal}
use Rattle.std.proofs.lemmas.Bool.{eqb-true}
use Rattle.std.proofs.lemmas.Fmt.{decimal_is_IsNumeral}
use Rattle.std.proofs.lemmas.List.{take_all}
use Rattle.std.proofs.lemmas.List.Elements.{All-nil, All-cons, All-append, All-weaker}
use Rattle.std.proofs.lemmas.Str.Parse.{digit_from_value}
use Rattle.osm_notation.specs.Decimal.{last_digits, without_end_zeros, fraction_text, magnitude_text, units_text}
use Rattle.osm_notation.proofs.DecimalValues.{digits-last, digits-without, length-last, length-without, padded, value-append, value-last, value-zeros}
use Rattle.opl_reader.specs.Numbers.{AreDigits, IsMagnitude, IsId, first_eight, IsUnsigned, IsDecimal}
use Rattle.opl_writer.specs.Writable.{IsIdNumber}
use Rattle.opl_writer.proofs.Bytes.{IsOfNumber}

-- ---- digits

each_digit : (ds : List ℕ) → AllDigits 10 ds → AreDigits ds
each_digit [] h = All-nil IsAsciiDigit
each_digit (d ∷ ds) h = All-cons IsAsciiDigit d ds (digit_from_value d h.0) (each_digit ds h.1)

digits-of_number : (ds : List ℕ) → AreDigits ds → All IsOfNumber ds
digits-of_number = All-weaker IsAsciiDigit IsOfNumber (λ d h. (omega (arith, h.0), h.1))

decimal-digits : (n : ℕ) → n < 2 ^ 64 → AreDigits (decimal n)
decimal-digits n small = each_digit (decimal n) (decimal_is_IsNumeral n small).0.1

minus : IsOfNumber 45
minus = (omega arith, omega arith)

point : IsOfNumber 46
point = (omega arith, omega arith)

-- ---- ids

magnitude-is : (n : ℕ) → n ≤ 4611686018427387903 → IsMagnitude (decimal n) n
magnitude-is n most =
    let told = decimal_is_IsNumeral n (omega arith) in
    record {
      digits = decimal-digits n (omega arith);
      some = told.0.0;
      most = omega (arith, told.1);
      worth = sym told.1;
    }

pub id_is_read : (id : ℤ) → IsIdNumber id → IsId (signed_decimal id) id
id_is_read (pos n) most = inl (n, magnitude-is n most, refl)
id_is_read (negsuc n) most = inr (decimal (suc n), suc n, refl, magnitude-is (suc n) most, refl)

pub id-of_number : (id : ℤ) → IsIdNumber id → All IsOfNumber (signed_decimal id)
id-of_number (pos n) most = digits-of_number (decimal n) (decimal-digits n (omega (arith, most)))
id-of_number (negsuc n) most = All-cons IsOfNumber 45 (decimal (suc n)) minus (digits-of_number (decimal (suc n)) (decimal-digits (suc n) (omega (arith, most))))

-- ---- the digits behind a point

-- the decimals of a rest, with zeros up to the eighth
eight : (rest : ℕ) → first_eight (without_end_zeros (last_digits 7 rest)) ≡ last_digits 7 rest ++ 48 ∷ []
eight rest =
    let ds = last_digits 7 rest in
    let few = length-without ds in
    let len = length-last 7 rest in
    let one : 8 - length ds ≡ 1 = omega arith in
    ap (λ (xs : List ℕ). xs ++ replicate (8 - length (without_end_zeros ds)) 48) (take_all 8 (without_end_zeros ds) (omega arith))
    ∙ padded 8 ds (omega arith)
    ∙ ap (λ (m : ℕ). ds ++ replicate m 48) one

rest-value : (rest : ℕ) → rest < 10 ^ 7 → (digits_value 10 (first_eight (without_end_zeros (last_digits 7 rest))) + 5) / 10 ≡ rest
rest-value rest below =
    let value : digits_value 10 (first_eight (without_end_zeros (last_digits 7 rest))) ≡ (0 * 10 ^ 7 + rest) * 10 ^ 1 =
    ap (digits_value 10) (eight rest) ∙ value-append 0 (last_digits 7 rest) (48 ∷ [])
    ∙ ap (λ (v : ℕ). digits_value_after 10 v (48 ∷ [])) (value-last 7 rest 0 below) ∙ value-zeros (0 * 10 ^ 7 + rest) 1 in
    omega arith

decimals-digits : (rest : ℕ) → rest < 10 ^ 7 → AreDigits (without_end_zeros (last_digits 7 rest))
decimals-digits rest below = each_digit (without_end_zeros (last_digits 7 rest)) (digits-without (last_digits 7 rest) (digits-last 7 rest below))

-- ---- coordinates

unsigned-by : (n : ℕ) → n < 2 ^ 64 → (b : Bool) → (n % 10 ^ 7 == 0) ≡ b → IsUnsigned (decimal (n / 10 ^ 7) ++ (if b then [] else 46 ∷ without_end_zeros (last_digits 7 (n % 10 ^ 7)))) n
unsigned-by n small true none =
    let told = decimal_is_IsNumeral (n / 10 ^ 7) (omega arith) in
    let is = eqb-true (n % 10 ^ 7) 0 none in
    record {
      whole = decimal (n / 10 ^ 7);
      decimals = [];
      spelled = inl (append-nil (decimal (n / 10 ^ 7)), refl);
      whole_digits = decimal-digits (n / 10 ^ 7) (omega arith);
      decimal_digits = All-nil IsAsciiDigit;
      some = omega (arith, told.0.0);
      worth = omega (arith, told.1);
    }
unsigned-by n small false some =
    let rest = n % 10 ^ 7 in
    let below : rest < 10 ^ 7 = omega arith in
    let told = decimal_is_IsNumeral (n / 10 ^ 7) (omega arith) in
    let worth = rest-value rest below in
    record {
      whole = decimal (n / 10 ^ 7);
      decimals = without_end_zeros (last_digits 7 rest);
      spelled = inr refl;
      whole_digits = decimal-digits (n / 10 ^ 7) (omega arith);
      decimal_digits = decimals-digits rest below;
      some = omega (arith, told.0.0);
      worth = omega (arith, told.1);
    }

unsigned-is : (n : ℕ) → n < 2 ^ 64 → IsUnsigned (magnitude_text n) n
unfolding magnitude_text fraction_text
unsigned-is n small = unsigned-by n small (n % 10 ^ 7 == 0) refl

pub units_are_read : (v : ℤ) → unsigned_abs v < 2 ^ 64 → IsDecimal (units_text v) v
units_are_read (pos n) small = inl (n, unsigned-is n small, refl)
units_are_read (negsuc n) small = inr (inr (magnitude_text (suc n), suc n, refl, unsigned-is (suc n) small, refl))

unsigned-of_number : (n : ℕ) → n < 2 ^ 64 → All IsOfNumber (magnitude_text n)
unfolding magnitude_text fraction_text
unsigned-of_number n small = All-append IsOfNumber (decimal (n / 10 ^ 7)) (fraction_text (n % 10 ^ 7)) (digits-of_number (decimal (n / 10 ^ 7)) (decimal-digits (n / 10 ^ 7) (omega arith))) (by (n % 10 ^ 7 == 0))
  where
    decimals : List ℕ
    decimals = without_end_zeros (last_digits 7 (n % 10 ^ 7))

    by : (b : Bool) → All IsOfNumber (if b then [] else 46 ∷ decimals)
    by true = All-nil IsOfNumber
    by false = All-cons IsOfNumber 46 decimals point (digits-of_number decimals (decimals-digits (n % 10 ^ 7) (omega arith)))

pub units-of_number : (v : ℤ) → unsigned_abs v < 2 ^ 64 → All IsOfNumber (units_text v)
units-of_number (pos n) small = unsigned-of_number n small
units-of_number (negsuc n) small = All-cons IsOfNumber 45 (magnitude_text (suc n)) minus (unsigned-of_number (suc n) small)
