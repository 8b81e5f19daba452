-- Degrees, the value of an option: a decimal without a sign.
use Rattle.std.specs.Prelude.{ℕ, Bool, false, ◌==◌, ◌||◌, List, [], ◌∷◌, Option, None, pos, nat_abs, if◌then◌else◌, option_map}
use Rattle.opl_reader.specs.NumberReading.{decimal_of}

-- its first byte is that of `-`, 45, or of `+`, 43
abbrev pub is_signed : List ℕ → Bool
is_signed [] = false
is_signed (first ∷ others) = first == 45 || first == 43

-- The degrees that are written so, in units of 1e-7 and up to `most` of them.
abbrev pub degrees_named : ℕ → List ℕ → Option ℕ
degrees_named most written = if is_signed written then None else option_map nat_abs (decimal_of (pos most) written)
