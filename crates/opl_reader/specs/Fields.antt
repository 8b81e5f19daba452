-- Fields: what a letter means, and what a field says of an object.
use Rattle.std.specs.Prelude.{◌≡◌, ℕ, ◌⊎◌, Bool, true, false, ◌||◌, ◌==◌, if◌then◌else◌, List, [], ◌∷◌, ℤ, Option, Some, None, slice_index}
use Rattle.osm_elements.specs.declared.object.Tag.{Tag}
use Rattle.osm_elements.specs.declared.object.Ref.{Ref}
use Rattle.osm_elements.specs.declared.object.Member.{Member}
use Rattle.osm_elements.specs.declared.object.ObjectKind.{ObjectKind}
use Rattle.osm_elements.specs.declared.object.ObjectKind.TheVariants.{Node, Way, Relation}
use Rattle.osm_elements.specs.declared.object.Object.{Object}
use Rattle.osm_elements.specs.declared.object.Object.TheVariants as object
use Rattle.opl_reader.specs.declared.field.Meaning.{Meaning}
use Rattle.opl_reader.specs.declared.field.Meaning.TheVariants.{Count, Flag, Anything, Name, X, Y, Tagged, Referring, Having}
use Rattle.opl_reader.specs.declared.content.Content.{Content}
use Rattle.osm_elements.specs.declared.coordinate.Longitude.{Longitude}
use Rattle.osm_elements.specs.declared.coordinate.Latitude.{Latitude}
use Rattle.opl_reader.specs.Parts.{Part, Lacks}
use Rattle.opl_reader.specs.Numbers.{IsNumber}
use Rattle.osm_elements.specs.Places.{location_from}
use Rattle.opl_reader.specs.Coordinates.{IsX, IsY}
use Rattle.opl_reader.specs.Strings.{IsString}
use Rattle.opl_reader.specs.Items.{IsItems, IsTag, IsRef, IsMember, first_of_each}

-- ---- letters

-- the letters that every object may have
abbrev pub shared : ℕ → Option Meaning
shared letter =
    if letter == 84 then Some Tagged
    else (if letter == 118 || letter == 99 || letter == 105 then Some Count
    else (if letter == 100 then Some Flag
    else (if letter == 116 then Some Anything
    else (if letter == 117 then Some Name else None))))

-- What a letter means for a kind of object. All kinds have T, v, c, i, d, t and u.
-- Besides, a node has x and y, a way N, and a relation M.
unfoldable pub letter_of : ObjectKind → ℕ → Option Meaning
letter_of Node letter = if letter == 120 then Some X else (if letter == 121 then Some Y else shared letter)
letter_of Way letter = if letter == 78 then Some Referring else shared letter
letter_of Relation letter = if letter == 77 then Some Having else shared letter

-- ---- content

-- what is known of an object before its fields: it is live, and all else is empty
abbrev pub nothing : Content
nothing = record { live = true; x = None; y = None; tags = []; refs = []; members = [] }

-- the object of a kind, an id and a content
abbrev pub object_of : ObjectKind → ℤ → Content → Object
object_of Node id c = object.Node id c.live c.tags (location_from c.x c.y)
object_of Way id c = object.Way id c.live c.tags c.refs
object_of Relation id c = object.Relation id c.live c.tags c.members

-- ---- values

-- V for a live object, D for a deleted one
abbrev pub IsFlag : List ℕ → Bool → Type 0
IsFlag bytes live = ((bytes ≡ 86 ∷ []) × (live ≡ true)) ⊎ ((bytes ≡ 68 ∷ []) × (live ≡ false))

-- a field of this meaning with this value changes the content c to d
abbrev pub Tells : Meaning → List ℕ → Content → Content → Type 0
Tells Count value c d = IsNumber value × (c ≡ d)
Tells Flag value c d = (live : Bool) × IsFlag value live × (record c { live = live } ≡ d)
Tells Anything value c d = c ≡ d
Tells Name value c d = (name : List ℕ) × IsString value name × (c ≡ d)
Tells X value c d = (x : Option Longitude) × IsX value x × (record c { x = x } ≡ d)
Tells Y value c d = (y : Option Latitude) × IsY value y × (record c { y = y } ≡ d)
Tells Tagged value c d = (tags : List Tag) × IsItems IsTag value tags × (record c { tags = first_of_each tags } ≡ d)
Tells Referring value c d = (refs : List Ref) × IsItems IsRef value refs × (record c { refs = refs } ≡ d)
Tells Having value c d = (members : List Member) × IsItems IsMember value members × (record c { members = members } ≡ d)

-- ---- fields

-- a field is a letter that has a meaning and wasn't seen before, and a value
abbrev pub FieldTells : ObjectKind → List ℕ → List ℕ → Content → Content → Type 0
FieldTells kind seen [] c d = ⊥
FieldTells kind seen (letter ∷ value) c d = (meaning : Meaning) × (letter_of kind letter ≡ Some meaning) × Lacks letter seen × Tells meaning value c d

-- the fields from left to right change the content c to d
abbrev pub Told : ObjectKind → List ℕ → List Part → Content → Content → Type 0
Told kind seen [] c d = c ≡ d
Told kind seen (f ∷ fields) c d = (e : Content) × FieldTells kind seen f.bytes c e × Told kind (slice_index f.bytes 0 ∷ seen) fields e d
