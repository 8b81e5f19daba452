-- Numbers below 2^64 in few bytes if they are small, and signed numbers by how they differ from others.
use Rattle.std.specs.Prelude.{ℕ, zero, suc, ◌+◌, ◌-◌, ◌*◌, ◌/◌, ◌%◌, ◌^◌, ◌==◌, nat_lt, if◌then◌else◌, Bool, false, List, [], ◌∷◌, ℤ}
use Rattle.std.specs.Int.{w64, cast_unsigned, cast_signed}

-- The digits in base 128, the lowest first, each but the last with 128 added. At most this many precede the last.
abbrev pub digits_within : ℕ → ℕ → List ℕ
digits_within zero n = n ∷ []
digits_within (suc more) n = if nat_lt n 128 then n ∷ [] else (128 + n % 128) ∷ digits_within more (n / 128)

-- a number by its digits; at most n of them precede the last
unfoldable pub number_bytes : ℕ → List ℕ
number_bytes n = digits_within n n

-- the number of the digits in front, in 64 bits
abbrev pub number_in : List ℕ → ℕ
number_in [] = 0
number_in (byte ∷ bytes) = if nat_lt byte 128 then byte else (number_in bytes * 128 % 2 ^ 64 + (byte - 128)) % 2 ^ 64

-- the bytes after them
abbrev pub after_number : List ℕ → List ℕ
after_number [] = []
after_number (byte ∷ bytes) = if nat_lt byte 128 then bytes else after_number bytes

-- A number and a mark, which is 0 or 1: the first byte has the mark and six bits of the number, and those above follow.
abbrev pub marked_bytes : ℕ → ℕ → List ℕ
marked_bytes mark n = if nat_lt n 64 then (2 * n + mark) ∷ [] else (128 + (2 * (n % 64) + mark)) ∷ number_bytes (n / 64)

-- the number with a mark in front, in 64 bits
abbrev pub marked_number : List ℕ → ℕ
marked_number [] = 0
marked_number (byte ∷ bytes) = if nat_lt byte 128 then byte / 2 else (number_in bytes * 64 % 2 ^ 64 + (byte - 128) / 2) % 2 ^ 64

-- whether its mark is 1
abbrev pub has_mark : List ℕ → Bool
has_mark [] = false
has_mark (byte ∷ bytes) = byte % 2 == 1

-- The bits of a signed number, folded so that small numbers of either sign are small: 0, -1, 1, -2, 2 and so on.
unfoldable pub folded : ℕ → ℕ
folded bits = if nat_lt bits (2 ^ 63) then 2 * bits else 2 * (2 ^ 64 - 1 - bits) + 1

-- the bits that were folded
unfoldable pub unfolded : ℕ → ℕ
unfolded n = if n % 2 == 0 then n / 2 else 2 ^ 64 - 1 - n / 2

-- how the second number differs from the first
unfoldable pub difference : ℤ → ℤ → ℕ
difference from to = folded ((cast_unsigned w64 to + (2 ^ 64 - cast_unsigned w64 from)) % 2 ^ 64)

-- the number that differs by this from the given one
unfoldable pub moved : ℤ → ℕ → ℤ
moved from by = cast_signed w64 ((cast_unsigned w64 from + unfolded by) % 2 ^ 64)
