-- Coordinates are read as what they spell, and the other way round.
use Rattle.std.proofs.Common.{◌≡◌, ℕ, cond, eqb, ◌⊎◌, List, [], length, Option, Some, None, pos, sym, ap, ◌∙◌, inl, inr}
use Rattle.std.specs.Prelude.{option_map, option_and_then}
use Rattle.std.proofs.lemmas.Bool.{cases_eq, ne_eqb, eq-eqb}
use Rattle.std.proofs.lemmas.List.{nil_from_length}
use Rattle.osm_elements.specs.declared.coordinate.Longitude.{Longitude}
use Rattle.osm_elements.specs.declared.coordinate.Latitude.{Latitude}
use Rattle.opl_reader.specs.Coordinates.{IsX, IsY}
use Rattle.opl_reader.specs.NumberReading.{decimal_of}
use Rattle.osm_elements.specs.Places.{longitude, latitude}
use Rattle.opl_reader.specs.CoordinateReading.{x_spelled, y_spelled}
use Rattle.opl_reader.proofs.SpellingLaws.{map_some}
use Rattle.opl_reader.proofs.PlaceLaws.{longitude_is, latitude_is, is_longitude, is_latitude, some_decimal}

coordinate_is : {A : Type 0} (bytes : List ℕ) (o : Option A) (x : Option A) → cond (eqb (length bytes) 0) (Some None) (option_map (λ l. Some l) o) ≡ Some x
    → ((bytes ≡ []) × (x ≡ None)) ⊎ ((l : A) × (o ≡ Some l) × (x ≡ Some l))
coordinate_is {A = A} bytes o x e =
    elim (cases_eq (length bytes) 0) [
      | inl none ↦ let f : ◌≡◌ {A = Option (Option A)} (Some None) (Some x) = rw (eq-eqb (length bytes) 0 none) at e in inl (nil_from_length bytes none, cc)
      | inr some ↦
          let f : option_map (λ (l : A). Some l) o ≡ Some x = rw (ne_eqb (length bytes) 0 some) at e in
          let m = map_some o (λ (l : A). Some l) x f in
          inr (m.0, m.1, sym m.2)
    ]

pub x_is : (bytes : List ℕ) (x : Option Longitude) → x_spelled bytes ≡ Some x → IsX bytes x
unfolding x_spelled
x_is bytes x e = elim (coordinate_is bytes (option_and_then longitude (decimal_of (pos 1800000000) bytes)) x e) [
  | inl none ↦ inl none
  | inr l ↦ inr (l.0, longitude_is bytes l.0 l.1, l.2)
]

pub y_is : (bytes : List ℕ) (y : Option Latitude) → y_spelled bytes ≡ Some y → IsY bytes y
unfolding y_spelled
y_is bytes y e = elim (coordinate_is bytes (option_and_then latitude (decimal_of (pos 900000000) bytes)) y e) [
  | inl none ↦ inl none
  | inr l ↦ inr (l.0, latitude_is bytes l.0 l.1, l.2)
]

pub is_x : (bytes : List ℕ) (x : Option Longitude) → IsX bytes x → x_spelled bytes ≡ Some x
unfolding x_spelled
is_x bytes x (inl none) = ap x_spelled none.0 ∙ ap (λ (y : Option Longitude). Some y) (sym none.1)
is_x bytes x (inr l) =
    rw (ne_eqb (length bytes) 0 (some_decimal bytes l.0.units l.1), is_longitude bytes l.0 l.1) (ap (λ (y : Option Longitude). Some y) (sym l.2))

pub is_y : (bytes : List ℕ) (y : Option Latitude) → IsY bytes y → y_spelled bytes ≡ Some y
unfolding y_spelled
is_y bytes y (inl none) = ap y_spelled none.0 ∙ ap (λ (z : Option Latitude). Some z) (sym none.1)
is_y bytes y (inr l) =
    rw (ne_eqb (length bytes) 0 (some_decimal bytes l.0.units l.1), is_latitude bytes l.0 l.1) (ap (λ (z : Option Latitude). Some z) (sym l.2))
