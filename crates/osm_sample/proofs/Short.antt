-- Lines of objects of the sample are short.
use Rattle.std.proofs.Common.{ℕ, suc, ◌+◌, ◌*◌, ◌^◌, ◌<◌, ◌≤◌, ◌/◌, ◌%◌, ◌==◌, arith, Bool, true, false, if◌then◌else◌, ℤ, pos, negsuc, Option, None, Some, List, [], ◌∷◌, ◌++◌, length, All}
use Rattle.std.specs.Prelude.{codes, decimal, unsigned_abs}
use Rattle.std.specs.List.{join_with_byte}
use Rattle.std.specs.Fmt.{signed_decimal}
use Rattle.std.proofs.lemmas.Fmt.{length-decimal-le}
use Rattle.std.proofs.lemmas.List.{length-append}
use Rattle.std.proofs.lemmas.List.Elements.{All-head, All-tail}
use Rattle.osm_lattice.specs.declared.loc.Loc.{Loc}
use Rattle.osm_notation.specs.Decimal.{fraction_text, last_digits, magnitude_text, units_text, without_end_zeros}
use Rattle.osm_notation.proofs.DecimalValues.{length-last, length-without}
use Rattle.opl_writer.specs.Written.{items_field, place_fields}

-- ---- coordinates

short_fraction : (rest : ℕ) → length (fraction_text rest) ≤ 8
unfolding fraction_text
short_fraction rest = by (rest == 0)
  where
    by : (b : Bool) → length (if b then [] else codes "." ++ without_end_zeros (last_digits 7 rest)) ≤ 8
    by true = omega arith
    by false = let digits = length-without (last_digits 7 rest) in let many = length-last 7 rest in omega arith

short_magnitude : (n : ℕ) → n ≤ 1_800_000_000 → length (magnitude_text n) ≤ 12
unfolding magnitude_text
short_magnitude n small =
    let whole = length-decimal-le 4 (n / 10 ^ 7) (omega arith) (omega arith) (omega arith) in
    let rest = short_fraction (n % 10 ^ 7) in
    let both = length-append (decimal (n / 10 ^ 7)) (fraction_text (n % 10 ^ 7)) in
    omega arith

short_units : (z : ℤ) → unsigned_abs z ≤ 1_800_000_000 → length (units_text z) ≤ 13
short_units (pos n) small = let short = short_magnitude n small in omega arith
short_units (negsuc n) small = let short = short_magnitude (suc n) small in omega arith

pub short_place : (place : Option Loc) → length (place_fields place) ≤ 30
short_place None = omega arith
short_place (Some p) =
    let x = short_units p.x p.x_in in
    let y = short_units p.y (let h = p.y_in in omega arith) in
    let first = length-append (codes " x" ++ units_text p.x ++ codes " y") (units_text p.y) in
    let second = length-append (codes " x" ++ units_text p.x) (codes " y") in
    omega arith

-- ---- ids

pub short_id : (n : ℕ) → n < 1_000_000 → length (signed_decimal (pos n)) ≤ 6
short_id n small = length-decimal-le 6 n (omega arith) (omega arith) (omega arith)

-- ---- items

-- items of at most m bytes, and the byte between each two
pub short_row : (c m : ℕ) (items : List (List ℕ)) → All (λ item. length item ≤ m) items → length (join_with_byte c items) ≤ length items * (m + 1)
short_row c m [] all = omega arith
short_row c m (item ∷ []) all = let first = All-head (λ (item : List ℕ). length item ≤ m) item [] all in omega arith
short_row c m (item ∷ next ∷ items) all =
    let first = All-head (λ (item : List ℕ). length item ≤ m) item (next ∷ items) all in
    let rest = short_row c m (next ∷ items) (All-tail (λ (item : List ℕ). length item ≤ m) item (next ∷ items) all) in
    let both = length-append item (c ∷ join_with_byte c (next ∷ items)) in
    omega arith

pub short_field : (letter : List ℕ) (m : ℕ) (items : List (List ℕ)) → All (λ item. length item ≤ m) items → length (items_field letter items) ≤ 1 + length letter + length items * (m + 1)
short_field letter m [] all = omega arith
short_field letter m (item ∷ items) all =
    let row = short_row 44 m (item ∷ items) all in
    let both = length-append (codes " " ++ letter) (join_with_byte 44 (item ∷ items)) in
    omega arith
