-- Numbers of one to seven digits, as std reads them. No public contract cites it.
use Rattle.std.proofs.Common.{◌≡◌, ◌<◌, ◌≤◌, ℕ, true, List, length, nat_le, nat_lt, Some, Result, Ok, refl, arith}
use Rattle.std.specs.Char.{is_ascii_digit}
use Rattle.std.specs.List.{list_all}
use Rattle.std.specs.Str.Parse.{ParsesUnsigned, digits_value}
use Rattle.osm_words.specs.Number.{number_named}
use Rattle.std.proofs.lemmas.Bool.Decides.{nat_tests}
use Rattle.std.proofs.lemmas.Str.Parse.{IsNumeralModel, digits_value_short, numerals_by_value, parse_gives, tells_all_ascii_digits}

abbrev AreDigits : List ℕ → Type 0
AreDigits ds = list_all is_ascii_digit ds ≡ true

digits_model : IsNumeralModel AreDigits (digits_value 10)
digits_model = numerals_by_value AreDigits tells_all_ascii_digits

pub short_number : (ds : List ℕ) → AreDigits ds → length ds ≤ 7 → digits_value 10 ds < 10_000_000
short_number ds are short = digits_value_short digits_model ds 7 are short

pub number_parsed : {E : Type 0} (ds : List ℕ) (r : Result ℕ E) → ParsesUnsigned 32 10 ds r → AreDigits ds → 0 < length ds → length ds ≤ 7 → r ≡ Ok (digits_value 10 ds)
number_parsed ds r parses are some short = parse_gives digits_model 32 ds r parses are some (let few = short_number ds are short in omega arith)

pub number_is : (ds : List ℕ) → AreDigits ds → 0 < length ds → length ds ≤ 7 → number_named ds ≡ Some (digits_value 10 ds)
number_is ds are some short =
    let t : nat_lt 0 (length ds) ≡ true = grind (arith, nat_tests, some) in
    let u : nat_le (length ds) 7 ≡ true = grind (arith, nat_tests, short) in
    rw (t, u, are) refl
