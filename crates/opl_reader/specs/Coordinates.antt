-- Coordinates: what x and y spell, and the location that they make.
use Rattle.std.specs.Prelude.{◌≡◌, ℕ, ◌⊎◌, List, [], Option, Some, None}
use Rattle.osm_elements.specs.declared.coordinate.Longitude.{Longitude}
use Rattle.osm_elements.specs.declared.coordinate.Latitude.{Latitude}
use Rattle.opl_reader.specs.Numbers.{IsDecimal}

-- empty, or the decimal of a longitude
abbrev pub IsX : List ℕ → Option Longitude → Type 0
IsX bytes x = ((bytes ≡ []) × (x ≡ None)) ⊎ ((l : Longitude) × IsDecimal bytes l.units × (x ≡ Some l))

-- empty, or the decimal of a latitude
abbrev pub IsY : List ℕ → Option Latitude → Type 0
IsY bytes y = ((bytes ≡ []) × (y ≡ None)) ⊎ ((l : Latitude) × IsDecimal bytes l.units × (y ≡ Some l))
