-- Strings as functions of their bytes.
use Rattle.std.specs.Prelude.{ℕ, Bool, ◌&&◌, ◌||◌, ◌==◌, nat_lt, nat_le, if◌then◌else◌, List, [], ◌∷◌, ◌++◌, length, Option, Some, None, option_and_then, option_map, encode_utf8, Result}
use Rattle.std.specs.Char.{digit_value}
use Rattle.std.specs.List.{list_all, slice_split}
use Rattle.std.specs.Str.Parse.{digits_value}
use Rattle.opl_reader.specs.declared.fault.FaultKind.TheVariants.{BadEscape}
use Rattle.opl_reader.specs.declared.fault.LineFault.{LineFault}
use Rattle.opl_reader.specs.Reading.{or_fault}

-- a hexadecimal digit, in either case
abbrev pub is_hex : ℕ → Bool
is_hex b = nat_lt (digit_value b) 16

-- 0 to 10ffff without d800 to dfff
abbrev pub is_scalar : ℕ → Bool
is_scalar c = nat_lt c 0xD800 || (nat_le 0xE000 c && nat_le c 0x10_FFFF)

-- one to six hexadecimal digits, worth a Unicode scalar value
unfoldable pub code_point : List ℕ → Option ℕ
code_point digits = if nat_lt 0 (length digits) && nat_le (length digits) 6 && list_all is_hex digits && is_scalar (digits_value 16 digits) then Some (digits_value 16 digits) else None

-- plain text and escapes alternate: the first part and the last are plain
unfoldable pub joined_text : List (List ℕ) → Option (List ℕ)
joined_text [] = None
joined_text (plain ∷ []) = Some plain
joined_text (plain ∷ escape ∷ parts) = option_and_then (λ c. option_map (λ rest. plain ++ encode_utf8 c ++ rest) (joined_text parts)) (code_point escape)

-- the text of a string, split at percent signs
unfoldable pub string_of : List ℕ → Option (List ℕ)
string_of bytes = joined_text (slice_split (λ b. b == 37) bytes)

-- the text of a string, in a field or an item that begins at place
unfoldable pub string_at : ℕ → List ℕ → Result (List ℕ) LineFault
string_at place bytes = or_fault BadEscape place (string_of bytes)
