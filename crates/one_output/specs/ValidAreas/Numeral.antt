-- Decimal numbers in texts, as in JSON (RFC 8259) without an exponent, and how many units of 1e-7 they are.
use Rattle.std.specs.Prelude.{List, [], codes, length, neg_ℤ, pos, ℕ, ℤ, ◌*◌, ◌++◌, ◌^◌, ◌∷◌, ◌≡◌}
use Rattle.std.specs.Str.Parse.{IsNumeral, digits_value}

-- no zero (48) comes before other digits
abbrev pub HasNoLeadingZero : List ℕ → Type 0
HasNoLeadingZero [] = Unit {0}
HasNoLeadingZero (digit ∷ digits) = digit ≡ 48 → digits ≡ []

-- one digit or more
abbrev pub AreOnes : List ℕ → Type 0
AreOnes digits = IsNumeral 10 digits × HasNoLeadingZero digits

-- Digits alone are that many ones, each 10 ^ 7 units.
-- With decimals after a point, the units times 10 to the power of the number of decimals are the number of all digits times
-- 10 ^ 7.
pub data SpellsMagnitude (text : List ℕ) (units : ℕ) : Type 0 where
  whole : AreOnes text → units ≡ digits_value 10 text * 10 ^ 7 → SpellsMagnitude text units
  with_decimals : (ones decimals : List ℕ) → text ≡ ones ++ codes "." ++ decimals → AreOnes ones → IsNumeral 10 decimals →
      units * 10 ^ length decimals ≡ digits_value 10 (ones ++ decimals) * 10 ^ 7 → SpellsMagnitude text units

-- a magnitude, with a minus in front if the number is negative
pub data SpellsUnits (text : List ℕ) (units : ℤ) : Type 0 where
  plain : (magnitude : ℕ) → SpellsMagnitude text magnitude → units ≡ pos magnitude → SpellsUnits text units
  minus : (magnitude : ℕ) (rest : List ℕ) → text ≡ codes "-" ++ rest → SpellsMagnitude rest magnitude →
      units ≡ neg_ℤ (pos magnitude) → SpellsUnits text units
