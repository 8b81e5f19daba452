-- Coordinates: a number of units in range, and the location that two make.
use Rattle.std.proofs.Common.{◌≡◌, Bool, true, false, leb, Option, Some, None, ℤ, refl, sym, ap, subst, ◌∙◌, rules, w32, to_z, of_z}
use Rattle.std.specs.Prelude.{unsigned_abs, FitsSigned, IsSome, IfSome, ◌↔◌}
use Rattle.std.proofs.lemmas.Bool.{le-leb, leb-true}
use Rattle.std.proofs.lemmas.Int.{to_z-of_z}
use Rattle.osm_lattice.specs.declared.loc.Loc.{Loc}
use Rattle.osm_elements.specs.Places.{location_from}
use Rattle.osm_lattice.specs.Bounds.{IsLongitude, IsLatitude}
use Rattle.osm_lattice.proofs.LatticeKit.{latitude_prop, loc_from_fields, longitude_prop}
use Rattle.osm_elements.specs.declared.coordinate.Longitude.{Longitude}
use Rattle.osm_elements.specs.declared.coordinate.Latitude.{Latitude}
use Rattle.osm_elements.specs.Places.{where_true, longitude, latitude}

where-holds : {A : Type 0} (b : Bool) (f : b ≡ true → A) (x : A) → b ≡ true → ((h : b ≡ true) → f h ≡ x) → where_true b f ≡ Some x
where-holds true f x h e = ap (λ y. Some y) (e refl)
where-holds false f x h e = absurd cc

where-some : {A : Type 0} (b : Bool) (f : b ≡ true → A) (x : A) → where_true b f ≡ Some x → (h : b ≡ true) × (f h ≡ x)
where-some true f x e = (refl, cc)
where-some false f x e = absurd cc

pub longitude-at : (z : ℤ) (l : Longitude) → l.units ≡ z → longitude z ≡ Some l
longitude-at z l e =
    ap longitude (sym e) ∙ where-holds (leb (unsigned_abs l.units) 1_800_000_000) (λ h. record { units = l.units; in_range = leb-true (unsigned_abs l.units) 1_800_000_000 h }) l (le-leb _ _ l.in_range)
    (λ h. let made : IsLongitude l.units → Longitude = λ r. record { units = l.units; in_range = r } in ap made (longitude_prop l.units (leb-true (unsigned_abs l.units) 1_800_000_000 h) l.in_range))

pub latitude-at : (z : ℤ) (l : Latitude) → l.units ≡ z → latitude z ≡ Some l
latitude-at z l e =
    ap latitude (sym e) ∙ where-holds (leb (unsigned_abs l.units) 900_000_000) (λ h. record { units = l.units; in_range = leb-true (unsigned_abs l.units) 900_000_000 h }) l (le-leb _ _ l.in_range)
    (λ h. let made : IsLatitude l.units → Latitude = λ r. record { units = l.units; in_range = r } in ap made (latitude_prop l.units (leb-true (unsigned_abs l.units) 900_000_000 h) l.in_range))

pub longitude-units : (z : ℤ) (l : Longitude) → longitude z ≡ Some l → z ≡ l.units
longitude-units z l e = ap (λ (k : Longitude). k.units) (where-some (leb (unsigned_abs z) 1_800_000_000) (λ h. record { units = z; in_range = leb-true (unsigned_abs z) 1_800_000_000 h }) l e).1

pub latitude-units : (z : ℤ) (l : Latitude) → latitude z ≡ Some l → z ≡ l.units
latitude-units z l e = ap (λ (k : Latitude). k.units) (where-some (leb (unsigned_abs z) 900_000_000) (λ h. record { units = z; in_range = leb-true (unsigned_abs z) 900_000_000 h }) l e).1

-- ---- locations

pub place-at : (x : Longitude) (y : Latitude) (l : Loc) → l.x ≡ x.units → l.y ≡ y.units → Some l ≡ location_from (Some x) (Some y)
place-at x y l e f = ap (λ (p : Loc). Some p) (loc_from_fields l (record { x = x.units; y = y.units; x_in = x.in_range; y_in = y.in_range }) e f)

-- ---- as the machine holds them

longitude_fits : (z : ℤ) → IsLongitude z → FitsSigned w32 z
longitude_fits z h = search (rules, h)

latitude_fits : (z : ℤ) → IsLatitude z → FitsSigned w32 z
latitude_fits z h = search (rules, h)

pub longitude-held : (l : Longitude) → to_z w32 (of_z w32 l.units) ≡ l.units
longitude-held l = to_z-of_z w32 l.units (longitude_fits l.units l.in_range)

pub latitude-held : (l : Latitude) → to_z w32 (of_z w32 l.units) ≡ l.units
latitude-held l = to_z-of_z w32 l.units (latitude_fits l.units l.in_range)

-- ---- of two numbers

none_placed : (x y : ℤ) (l : Option Longitude) (m : Option Latitude) → longitude x ≡ l → latitude y ≡ m → (IsLongitude x → IsLatitude y → ⊥) → None ≡ location_from l m
none_placed x y None m e f outside = refl
none_placed x y (Some l) None e f outside = refl
none_placed x y (Some l) (Some m) e f outside = absurd (outside (subst IsLongitude (sym (longitude-units x l e)) l.in_range) (subst IsLatitude (sym (latitude-units y m f)) m.in_range))

pub placed : (x y : ℤ) (r : Option Loc) → (IsSome r ↔ (IsLongitude x × IsLatitude y)) → IfSome r (λ p. (p.x ≡ x) × (p.y ≡ y)) → r ≡ location_from (longitude x) (latitude y)
placed x y (Some at) valid value =
    let l : Longitude = record { units = at.x; in_range = at.x_in } in
    let m : Latitude = record { units = at.y; in_range = at.y_in } in
    place-at l m at refl refl ∙ sym (ap (λ (k : Option Longitude). location_from k (Some m)) (longitude-at x l value.0)) ∙ sym (ap (location_from (longitude x)) (latitude-at y m value.1))
placed x y None valid value = none_placed x y (longitude x) (latitude y) refl refl (λ a b. let some : IsSome {T = Loc} None = valid.1 (a, b) in absurd cc)

-- a location's own coordinates make it
pub own_place : (at : Loc) → location_from (longitude at.x) (latitude at.y) ≡ Some at
own_place at = sym (placed at.x at.y (Some at) (λ _. (at.x_in, at.y_in), λ _. refl) (refl, refl))
