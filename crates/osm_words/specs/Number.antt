-- Numbers, the value of an option.
use Rattle.std.specs.Prelude.{ℕ, ◌&&◌, List, length, nat_le, nat_lt, Option, Some, None, if◌then◌else◌}
use Rattle.std.specs.Char.{is_ascii_digit}
use Rattle.std.specs.List.{list_all}
use Rattle.std.specs.Str.Parse.{digits_value}

-- the number that one to seven digits write
abbrev pub number_named : List ℕ → Option ℕ
number_named written =
    if nat_lt 0 (length written) && nat_le (length written) 7 && list_all is_ascii_digit written then Some (digits_value 10 written)
    else None
