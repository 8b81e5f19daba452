-- Coordinates as functions of their bytes.
use Rattle.std.specs.Prelude.{ℕ, ◌==◌, if◌then◌else◌, List, length, pos, Option, Some, None, option_map, option_and_then}
use Rattle.osm_elements.specs.declared.coordinate.Longitude.{Longitude}
use Rattle.osm_elements.specs.declared.coordinate.Latitude.{Latitude}
use Rattle.opl_reader.specs.NumberReading.{decimal_of}
use Rattle.osm_elements.specs.Places.{longitude, latitude}

-- empty, or the decimal of a longitude
unfoldable pub x_spelled : List ℕ → Option (Option Longitude)
x_spelled bytes = if length bytes == 0 then Some None else option_map (λ l. Some l) (option_and_then longitude (decimal_of (pos 1800000000) bytes))

-- empty, or the decimal of a latitude
unfoldable pub y_spelled : List ℕ → Option (Option Latitude)
y_spelled bytes = if length bytes == 0 then Some None else option_map (λ l. Some l) (option_and_then latitude (decimal_of (pos 900000000) bytes))
