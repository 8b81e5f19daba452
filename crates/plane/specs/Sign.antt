-- The sign of an integer. Every test of plane geometry here is a function of signs of cross and dot products.
use Rattle.std.specs.Prelude.{Bool, false, suc, true, zero}
use lib.IntN.{negsuc, pos, ℤ}

pub data Sign : Type 0 where
  Minus Null Plus : Sign

abbrev pub sign : ℤ → Sign
sign (pos zero) = Null
sign (pos (suc n)) = Plus
sign (negsuc n) = Minus

abbrev pub is_minus : Sign → Bool
is_minus Minus = true
is_minus s = false

abbrev pub is_null : Sign → Bool
is_null Null = true
is_null s = false

abbrev pub is_plus : Sign → Bool
is_plus Plus = true
is_plus s = false

-- one is Plus and the other Minus
abbrev pub are_opposite : Sign → Sign → Bool
are_opposite Plus Minus = true
are_opposite Minus Plus = true
are_opposite s t = false

-- the sign of the number with the other sign
abbrev pub negated : Sign → Sign
negated Plus = Minus
negated Null = Null
negated Minus = Plus

-- the first of two signs that is not Null
abbrev pub then_sign : Sign → Sign → Sign
then_sign Null t = t
then_sign s t = s
