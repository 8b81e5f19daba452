-- Values that are lists of items: tags, references and members.
use Rattle.std.specs.Prelude.{◌≡◌, ◌≢◌, ℕ, ◌<◌, ◌⊎◌, not, ◌==◌, if◌then◌else◌, List, [], ◌∷◌, ◌++◌, length, ℤ, Option, Some, None}
use Rattle.std.specs.List.{filter, AllByRecursion}
use Rattle.std.specs.Str.{bytes_eq}
use Rattle.osm_lattice.specs.declared.loc.Loc.{Loc}
use Rattle.osm_elements.specs.declared.coordinate.Longitude.{Longitude}
use Rattle.osm_elements.specs.declared.coordinate.Latitude.{Latitude}
use Rattle.osm_elements.specs.declared.object.Tag.{Tag}
use Rattle.osm_elements.specs.declared.object.Ref.{Ref}
use Rattle.osm_elements.specs.declared.object.Member.{Member}
use Rattle.osm_elements.specs.declared.object.ObjectKind.{ObjectKind}
use Rattle.osm_elements.specs.declared.object.ObjectKind.TheVariants.{Node, Way, Relation}
use Rattle.opl_reader.specs.Parts.{Lacks, PartedByCommas}
use Rattle.opl_reader.specs.Numbers.{IsId}
use Rattle.osm_elements.specs.Places.{location_from}
use Rattle.opl_reader.specs.Coordinates.{IsX, IsY}
use Rattle.opl_reader.specs.Strings.{IsString}

-- each part spells the value in its place
abbrev pub Each : {A : Type 0} → (List ℕ → A → Type 0) → List (List ℕ) → List A → Type 0
Each spells [] [] = Unit {0}
Each spells [] (x ∷ xs) = ⊥
Each spells (part ∷ parts) [] = ⊥
Each spells (part ∷ parts) (x ∷ xs) = spells part x × Each spells parts xs

-- items separated by commas
pub record AreItems {A : Type 0} (spells : List ℕ → A → Type 0) (bytes : List ℕ) (xs : List A) : Type 0 where
  pub some : 0 < length bytes
  pub parts : List (List ℕ)
  pub parted : PartedByCommas bytes parts
  pub spelled : Each spells parts xs

-- no items if the value is empty; otherwise items separated by commas
abbrev pub IsItems : {A : Type 0} → (List ℕ → A → Type 0) → List ℕ → List A → Type 0
IsItems spells bytes xs = ((bytes ≡ []) × (xs ≡ [])) ⊎ AreItems spells bytes xs

-- ---- tags

-- key=value, cut at the first =
pub record IsTag (bytes : List ℕ) (t : Tag) : Type 0 where
  pub key : List ℕ
  pub value : List ℕ
  pub parts : bytes ≡ key ++ 61 ∷ value
  pub first : Lacks 61 key
  pub key_is : IsString key t.key
  pub value_is : IsString value t.value

-- of equal keys only the first
abbrev pub first_of_each : List Tag → List Tag
first_of_each [] = []
first_of_each (t ∷ tags) = t ∷ filter (λ u. not (bytes_eq u.key t.key)) (first_of_each tags)

-- no two of the tags have one key
abbrev pub HaveDifferentKeys : List Tag → Type 0
HaveDifferentKeys [] = Unit {0}
HaveDifferentKeys (t ∷ tags) = AllByRecursion (λ u. u.key ≢ t.key) tags × HaveDifferentKeys tags

-- ---- references

-- x, a longitude or nothing, y, a latitude or nothing; a location if both are there
pub record IsOwnPlace (bytes : List ℕ) (at : Option Loc) : Type 0 where
  pub x_bytes : List ℕ
  pub y_bytes : List ℕ
  pub x : Option Longitude
  pub y : Option Latitude
  pub parts : bytes ≡ 120 ∷ (x_bytes ++ 121 ∷ y_bytes)
  pub first : Lacks 121 x_bytes
  pub x_is : IsX x_bytes x
  pub y_is : IsY y_bytes y
  pub at_is : location_from x y ≡ at

-- n, an id, and after the id either nothing or, from the first x on, an own location
pub record IsRef (bytes : List ℕ) (r : Ref) : Type 0 where
  pub digits : List ℕ
  pub behind : List ℕ
  pub parts : bytes ≡ 110 ∷ (digits ++ behind)
  pub first : Lacks 120 digits
  pub id_is : IsId digits r.node
  pub at_is : ((behind ≡ []) × (r.at ≡ None)) ⊎ IsOwnPlace behind r.at

-- ---- members

-- the kind of object that n, w or r names
abbrev pub kind_by_letter : ℕ → Option ObjectKind
kind_by_letter b = if b == 110 then Some Node else (if b == 119 then Some Way else (if b == 114 then Some Relation else None))

-- a letter and an id, separated by the first @ from a role
pub record HasTarget (bytes : List ℕ) (role : List ℕ) (kind : ObjectKind) (id : ℤ) : Type 0 where
  pub letter : ℕ
  pub digits : List ℕ
  pub parts : bytes ≡ (letter ∷ digits) ++ 64 ∷ role
  pub first : Lacks 64 (letter ∷ digits)
  pub kind_is : kind_by_letter letter ≡ Some kind
  pub id_is : IsId digits id

-- a letter, an id, @ and a role
pub record IsMember (bytes : List ℕ) (m : Member) : Type 0 where
  pub role : List ℕ
  pub target : HasTarget bytes role m.kind m.id
  pub role_is : IsString role m.role
