-- The location of coordinates, where they are in range.
use Rattle.std.proofs.Common.{◌≡◌, ◌∙◌, ap₂, ℤ, Option, Some}
use Rattle.std.specs.Prelude.{◌↔◌, IfSome, IsSome, option_and_then}
use Rattle.osm_lattice.specs.Bounds.{IsLatitude, IsLongitude}
use Rattle.osm_lattice.specs.declared.loc.Loc.{Loc}
use Rattle.osm_elements.specs.Places.{latitude, longitude}
use Rattle.osm_elements.specs.Places.{location_from}
use Rattle.osm_elements.proofs.ElementsKit.{placed}

pub location_is : (x y : ℤ) (dx dy : Option ℤ) (r : Option Loc) → Some x ≡ dx → Some y ≡ dy → (IsSome r ↔ (IsLongitude x × IsLatitude y)) →
    IfSome r (λ p. (p.x ≡ x) × (p.y ≡ y)) → r ≡ location_from (option_and_then longitude dx) (option_and_then latitude dy)
location_is x y dx dy r is_x is_y valid value = placed x y r valid value
    ∙ ap₂ (λ (a b : Option ℤ). location_from (option_and_then longitude a) (option_and_then latitude b)) is_x is_y
