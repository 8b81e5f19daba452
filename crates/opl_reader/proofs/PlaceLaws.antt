-- Coordinates: the decimal that spells a number of units in range.
use Rattle.std.proofs.Common.{◌≡◌, ℕ, ◌≤◌, List, [], ◌∷◌, length, Some, None, ℤ, pos, nat_abs, ◌≤ℤ◌, refl, sym, ap, subst, ◌∙◌, arith}
use Rattle.std.specs.Prelude.{option_and_then, unsigned_abs}
use Rattle.std.proofs.lemmas.Option.{none-some}
use Rattle.osm_elements.specs.declared.coordinate.Longitude.{Longitude}
use Rattle.osm_elements.specs.declared.coordinate.Latitude.{Latitude}
use Rattle.opl_reader.specs.Numbers.{IsDecimal}
use Rattle.opl_reader.specs.NumberReading.{decimal_of, within, unsigned_of}
use Rattle.osm_elements.specs.Places.{longitude, latitude}
use Rattle.opl_reader.proofs.SpellingLaws.{and_then_some}
use Rattle.opl_reader.proofs.DecimalLaws.{decimal_is, is_decimal}
use Rattle.osm_elements.proofs.ElementsKit.{longitude-at, latitude-at, longitude-units, latitude-units}

-- ---- the decimals that spell them

pub longitude_is : (bytes : List ℕ) (l : Longitude) → option_and_then longitude (decimal_of (pos 1800000000) bytes) ≡ Some l → IsDecimal bytes l.units
longitude_is bytes l e =
    let a = and_then_some (decimal_of (pos 1800000000) bytes) longitude l e in
    subst (IsDecimal bytes) (longitude-units a.0 l a.2) (decimal_is (pos 1800000000) bytes a.0 a.1).0

pub latitude_is : (bytes : List ℕ) (l : Latitude) → option_and_then latitude (decimal_of (pos 900000000) bytes) ≡ Some l → IsDecimal bytes l.units
latitude_is bytes l e =
    let a = and_then_some (decimal_of (pos 900000000) bytes) latitude l e in
    subst (IsDecimal bytes) (latitude-units a.0 l a.2) (decimal_is (pos 900000000) bytes a.0 a.1).0

small : (z : ℤ) (m : ℕ) → unsigned_abs z ≤ m → pos (nat_abs z) ≤ℤ pos m
small z m h = grind (arith, h)

pub is_longitude : (bytes : List ℕ) (l : Longitude) → IsDecimal bytes l.units → option_and_then longitude (decimal_of (pos 1800000000) bytes) ≡ Some l
is_longitude bytes l d = ap (option_and_then longitude) (is_decimal (pos 1800000000) bytes l.units d (small l.units 1800000000 l.in_range)) ∙ longitude-at l.units l refl

pub is_latitude : (bytes : List ℕ) (l : Latitude) → IsDecimal bytes l.units → option_and_then latitude (decimal_of (pos 900000000) bytes) ≡ Some l
is_latitude bytes l d = ap (option_and_then latitude) (is_decimal (pos 900000000) bytes l.units d (small l.units 900000000 l.in_range)) ∙ latitude-at l.units l refl

no_decimal : (most : ℤ) → decimal_of most [] ≡ None
unfolding decimal_of within unsigned_of
no_decimal most = refl

-- a decimal isn't empty
pub some_decimal : (bytes : List ℕ) (z : ℤ) → IsDecimal bytes z → length bytes ≡ 0 → ⊥
some_decimal [] z d none = none-some z (sym (no_decimal (pos (nat_abs z))) ∙ is_decimal (pos (nat_abs z)) [] z d (small z (nat_abs z) (omega arith)))
some_decimal (b ∷ bytes) z d none = absurd (omega arith)
