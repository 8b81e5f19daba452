-- Numbers of units as coordinates, and the location that two of them make.
use Rattle.osm_elements.specs.declared.coordinate.Latitude.{Latitude}
use Rattle.osm_elements.specs.declared.coordinate.Longitude.{Longitude}
use Rattle.osm_lattice.specs.declared.loc.Loc.{Loc}
use Rattle.std.proofs.lemmas.Bool.{leb-true}
use Rattle.std.specs.Prelude.{◌≡◌, Bool, true, false, nat_le, ℤ, unsigned_abs, Option, Some, None, refl}

-- a value that exists if a test holds
abbrev pub where_true : {A : Type 0} (b : Bool) → (b ≡ true → A) → Option A
where_true true f = Some (f refl)
where_true false f = None

-- a number of units, if it is a longitude
abbrev pub longitude : ℤ → Option Longitude
longitude z = where_true (nat_le (unsigned_abs z) 1_800_000_000) (λ h. record { units = z; in_range = leb-true (unsigned_abs z) 1_800_000_000 h })

-- a number of units, if it is a latitude
abbrev pub latitude : ℤ → Option Latitude
latitude z = where_true (nat_le (unsigned_abs z) 900_000_000) (λ h. record { units = z; in_range = leb-true (unsigned_abs z) 900_000_000 h })

-- a location, if both coordinates are there
abbrev pub location_from : Option Longitude → Option Latitude → Option Loc
location_from None y = None
location_from (Some x) None = None
location_from (Some x) (Some y) = Some (record { x = x.units; y = y.units; x_in = x.in_range; y_in = y.in_range })
