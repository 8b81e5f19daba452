-- Numbers as functions of their bytes.
use Rattle.std.specs.Prelude.{ℕ, ◌+◌, Bool, true, ◌&&◌, ◌==◌, nat_lt, nat_le, if◌then◌else◌, List, [], ◌∷◌, length, ℤ, pos, neg_ℤ, Option, Some, None, option_map, option_and_then, int_le}
use Rattle.std.specs.List.{list_all, before_first, after_first}
use Rattle.std.specs.Char.{is_ascii_digit}
use Rattle.std.specs.Str.Parse.{digits_value}
use Rattle.opl_reader.specs.Numbers.{units}

-- one or more digits, worth at most 2^62 - 1
unfoldable pub magnitude_of : List ℕ → Option ℤ
magnitude_of digits = if nat_lt 0 (length digits) && list_all is_ascii_digit digits && nat_le (digits_value 10 digits) 4611686018427387903 then Some (pos (digits_value 10 digits)) else None

-- an optional minus, and a magnitude
unfoldable pub id_spelled : List ℕ → Option ℤ
id_spelled [] = magnitude_of []
id_spelled (b ∷ bs) = if b == 45 then option_map neg_ℤ (magnitude_of bs) else magnitude_of (b ∷ bs)

abbrev pub is_point : ℕ → Bool
is_point b = b == 46

-- digits, and after a point more digits; at least one digit in all
unfoldable pub unsigned_of : List ℕ → Option ℕ
unsigned_of text =
    let whole = before_first is_point text in
    let decimals = after_first is_point text in
    if nat_lt 0 (length whole + length decimals) && list_all is_ascii_digit whole && list_all is_ascii_digit decimals then Some (units whole decimals) else None

-- a magnitude up to the limit
abbrev pub up_to : ℤ → ℕ → Option ℤ
up_to limit n = if int_le (pos n) limit then Some (pos n) else None

-- digits with a point, worth at most the limit
unfoldable pub within : ℤ → List ℕ → Option ℤ
within limit text = option_and_then (up_to limit) (unsigned_of text)

-- an optional sign, and a magnitude up to the limit
unfoldable pub decimal_of : ℤ → List ℕ → Option ℤ
decimal_of limit [] = within limit []
decimal_of limit (b ∷ bs) = if b == 45 then option_map neg_ℤ (within limit bs) else (if b == 43 then within limit bs else within limit (b ∷ bs))

-- 1 to 19 digits
abbrev pub is_count : List ℕ → Bool
is_count digits = nat_lt 0 (length digits) && nat_le (length digits) 19 && list_all is_ascii_digit digits

-- empty, or an optional minus and a count
unfoldable pub is_number : List ℕ → Bool
is_number [] = true
is_number (b ∷ bytes) = if b == 45 then is_count bytes else is_count (b ∷ bytes)
