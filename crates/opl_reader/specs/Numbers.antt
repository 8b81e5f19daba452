-- Numbers: ids, decimals, and those that aren't kept.
use Rattle.std.specs.Prelude.{◌≡◌, ℕ, ◌+◌, ◌*◌, ◌/◌, ◌-◌, ◌<◌, ◌≤◌, ◌⊎◌, List, [], ◌∷◌, ◌++◌, length, take, replicate, ℤ, pos, neg_ℤ, nat_abs, ◌≤ℤ◌, All}
use Rattle.std.specs.Char.{IsAsciiDigit}
use Rattle.std.specs.Str.Parse.{digits_value}

abbrev pub AreDigits : List ℕ → Type 0
AreDigits bytes = All IsAsciiDigit bytes

-- ---- ids

-- one or more digits, worth at most 2^62 - 1
pub record IsMagnitude (text : List ℕ) (n : ℕ) : Type 0 where
  pub digits : AreDigits text
  pub some : 0 < length text
  pub most : digits_value 10 text ≤ 4611686018427387903
  pub worth : n ≡ digits_value 10 text

-- an optional minus, and a magnitude
abbrev pub IsId : List ℕ → ℤ → Type 0
IsId text id = ((n : ℕ) × IsMagnitude text n × (id ≡ pos n)) ⊎ ((digits : List ℕ) × (n : ℕ) × (text ≡ 45 ∷ digits) × IsMagnitude digits n × (id ≡ neg_ℤ (pos n)))

-- ---- decimals

-- eight decimals, with zeros for missing ones
abbrev pub first_eight : List ℕ → List ℕ
first_eight decimals = take 8 decimals ++ replicate (8 - length decimals) 48

-- the magnitude in units of 1e-7 degree: the eighth decimal rounds, and later ones don't count
abbrev pub units : List ℕ → List ℕ → ℕ
units whole decimals = digits_value 10 whole * 10000000 + (digits_value 10 (first_eight decimals) + 5) / 10

-- digits, and after a point more digits; at least one digit in all
pub record IsUnsigned (text : List ℕ) (n : ℕ) : Type 0 where
  pub whole : List ℕ
  pub decimals : List ℕ
  pub spelled : ((text ≡ whole) × (decimals ≡ [])) ⊎ (text ≡ whole ++ 46 ∷ decimals)
  pub whole_digits : AreDigits whole
  pub decimal_digits : AreDigits decimals
  pub some : 0 < length whole + length decimals
  pub worth : n ≡ units whole decimals

-- an optional sign, and a magnitude
abbrev pub IsDecimal : List ℕ → ℤ → Type 0
IsDecimal text z = ((n : ℕ) × IsUnsigned text n × (z ≡ pos n))
    ⊎ (((digits : List ℕ) × (n : ℕ) × (text ≡ 43 ∷ digits) × IsUnsigned digits n × (z ≡ pos n))
    ⊎ ((digits : List ℕ) × (n : ℕ) × (text ≡ 45 ∷ digits) × IsUnsigned digits n × (z ≡ neg_ℤ (pos n))))

-- the magnitude is at most the limit
abbrev pub IsWithinLimit : ℤ → ℤ → Type 0
IsWithinLimit limit z = pos (nat_abs z) ≤ℤ limit

-- ---- numbers that aren't kept

-- 1 to 19 digits
abbrev pub IsCount : List ℕ → Type 0
IsCount digits = AreDigits digits × (0 < length digits) × (length digits ≤ 19)

-- empty, or an optional minus and a count
abbrev pub IsNumber : List ℕ → Type 0
IsNumber bytes = (bytes ≡ []) ⊎ (IsCount bytes ⊎ ((digits : List ℕ) × (bytes ≡ 45 ∷ digits) × IsCount digits))
