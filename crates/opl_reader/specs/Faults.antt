-- The fault of a line: the kind and the place of its first part without a reading.
use Rattle.std.specs.Prelude.{◌≡◌, ◌≢◌, ℕ, ◌+◌, ◌<◌, ◌⊎◌, Bool, List, [], ◌∷◌, ◌++◌, length, sum_by, ℤ, Option, Some, None, slice_index}
use Rattle.std.specs.Str.{IsUtf8}
use Rattle.std.specs.Str.Lossy.{utf8_valid_len}
use Rattle.opl_reader.specs.declared.fault.FaultKind.{FaultKind}
use Rattle.opl_reader.specs.declared.fault.FaultKind.TheVariants.{NotUtf8, UnknownObject, UnknownField, RepeatedField, BadNumber, BadFlag, BadCoordinate, BadEscape, BadTag, BadReference, BadMember}
use Rattle.opl_reader.specs.declared.fault.LineFault.{LineFault}
use Rattle.opl_reader.specs.declared.fault.LineError.{LineError}
use Rattle.opl_reader.specs.declared.fault.LineError.TheVariants.{Fault, OutOfMemory}
use Rattle.osm_elements.specs.declared.object.ObjectKind.{ObjectKind}
use Rattle.osm_elements.specs.declared.object.Ref.{Ref}
use Rattle.opl_reader.specs.declared.field.Meaning.{Meaning}
use Rattle.opl_reader.specs.declared.field.Meaning.TheVariants.{Count, Flag, Anything, Name, X, Y, Tagged, Referring, Having}
use Rattle.opl_reader.specs.declared.content.Content.{Content}
use Rattle.osm_elements.specs.declared.coordinate.Longitude.{Longitude}
use Rattle.osm_elements.specs.declared.coordinate.Latitude.{Latitude}
use Rattle.opl_reader.specs.Parts.{Part, without_cr, Lacks, Parted, PartedByCommas}
use Rattle.opl_reader.specs.Numbers.{IsId, IsNumber}
use Rattle.opl_reader.specs.Strings.{IsString}
use Rattle.opl_reader.specs.Items.{Each, IsTag, IsRef, kind_by_letter, HasTarget, IsMember}
use Rattle.opl_reader.specs.Coordinates.{IsX, IsY}
use Rattle.opl_reader.specs.Fields.{letter_of, nothing, IsFlag, Told}

-- a fault of this kind at this place
abbrev pub fault_at : FaultKind → ℕ → LineFault
fault_at kind place = record { kind = kind; place = place }

-- ---- items

-- a string that spells no text: some % of it begins no escape
abbrev pub IsBadString : List ℕ → Type 0
IsBadString bytes = (text : List ℕ) → ¬ IsString bytes text

-- an item of T that is no tag: it has no =, or else a bad string as its key or its value
abbrev pub IsBadTag : FaultKind → List ℕ → Type 0
IsBadTag kind bytes = (Lacks 61 bytes × (kind ≡ BadTag))
    ⊎ ((key : List ℕ) × (value : List ℕ) × (bytes ≡ key ++ 61 ∷ value) × Lacks 61 key × (IsBadString key ⊎ IsBadString value) × (kind ≡ BadEscape))

-- an item of N that is no reference
abbrev pub IsBadRef : FaultKind → List ℕ → Type 0
IsBadRef kind bytes = ((r : Ref) → ¬ IsRef bytes r) × (kind ≡ BadReference)

-- an item of M that is no member: it has no target, or else a bad string as its role
abbrev pub IsBadMember : FaultKind → List ℕ → Type 0
IsBadMember kind bytes = (((role : List ℕ) (k : ObjectKind) (id : ℤ) → ¬ HasTarget bytes role k id) × (kind ≡ BadMember))
    ⊎ ((role : List ℕ) × (k : ObjectKind) × (id : ℤ) × HasTarget bytes role k id × IsBadString role × (kind ≡ BadEscape))

-- the parts before are read, and this one is bad; its fault is at its first byte
pub record FirstBad {A : Type 0} (spells : List ℕ → A → Type 0) (bad : FaultKind → List ℕ → Type 0) (place : ℕ) (parts : List (List ℕ)) (x : LineFault) : Type 0 where
  pub before : List (List ℕ)
  pub item : List ℕ
  pub after : List (List ℕ)
  pub read : List A
  pub parts_are : parts ≡ before ++ item ∷ after
  pub spelled : Each spells before read
  pub is_bad : bad x.kind item
  pub place_is : x.place ≡ place + sum_by (λ b. length b + 1) before

-- a value that isn't empty, with a first bad one among its items
pub record HasBadItem {A : Type 0} (spells : List ℕ → A → Type 0) (bad : FaultKind → List ℕ → Type 0) (place : ℕ) (bytes : List ℕ) (x : LineFault) : Type 0 where
  pub some : 0 < length bytes
  pub parts : List (List ℕ)
  pub parted : PartedByCommas bytes parts
  pub first : FirstBad spells bad place parts x

-- ---- fields

-- A value that has no reading by the letter's meaning.
-- Its fault is at the letter, but that of items is at the first bad item.
abbrev pub BadValue : Meaning → ℕ → List ℕ → LineFault → Type 0
BadValue Count place value x = (¬ IsNumber value) × (x ≡ fault_at BadNumber place)
BadValue Flag place value x = ((live : Bool) → ¬ IsFlag value live) × (x ≡ fault_at BadFlag place)
BadValue Anything place value x = ⊥
BadValue Name place value x = IsBadString value × (x ≡ fault_at BadEscape place)
BadValue X place value x = ((l : Option Longitude) → ¬ IsX value l) × (x ≡ fault_at BadCoordinate place)
BadValue Y place value x = ((l : Option Latitude) → ¬ IsY value l) × (x ≡ fault_at BadCoordinate place)
BadValue Tagged place value x = HasBadItem IsTag IsBadTag (place + 1) value x
BadValue Referring place value x = HasBadItem IsRef IsBadRef (place + 1) value x
BadValue Having place value x = HasBadItem IsMember IsBadMember (place + 1) value x

-- A letter that means nothing, one that was seen before, or a bad value.
abbrev pub BadField : ObjectKind → List ℕ → Part → LineFault → Type 0
BadField kind seen field x = ((letter_of kind (slice_index field.bytes 0) ≡ None) × (x ≡ fault_at UnknownField field.at))
    ⊎ ((letter : ℕ) × (value : List ℕ) × (meaning : Meaning) × (field.bytes ≡ letter ∷ value) × (letter_of kind letter ≡ Some meaning)
    × (((¬ Lacks letter seen) × (x ≡ fault_at RepeatedField field.at)) ⊎ (Lacks letter seen × BadValue meaning field.at value x)))

-- the letters seen after these fields
abbrev pub seen_after : List ℕ → List Part → List ℕ
seen_after seen [] = seen
seen_after seen (f ∷ fields) = seen_after (slice_index f.bytes 0 ∷ seen) fields

-- The fields before are read, and this one has the fault.
pub record FirstFault (kind : ObjectKind) (seen : List ℕ) (fields : List Part) (c : Content) (x : LineFault) : Type 0 where
  pub before : List Part
  pub field : Part
  pub after : List Part
  pub content : Content
  pub parts : fields ≡ before ++ field ∷ after
  pub told : Told kind seen before c content
  pub bad : BadField kind (seen_after seen before) field x

-- ---- lines

-- The first field of a line begins neither a comment nor a changeset.
pub record IsKept (line : List ℕ) (first : Part) (others : List Part) : Type 0 where
  pub fields : Parted 0 (without_cr line) (first ∷ others)
  pub comment : slice_index first.bytes 0 ≢ 35
  pub changeset : slice_index first.bytes 0 ≢ 99

-- No letter of an object, or a bad id after it; else the first of the other fields without a reading.
abbrev pub ObjectFault : Part → List Part → LineFault → Type 0
ObjectFault first others x = ((kind_by_letter (slice_index first.bytes 0) ≡ None) × (x ≡ fault_at UnknownObject first.at))
    ⊎ ((letter : ℕ) × (digits : List ℕ) × (kind : ObjectKind) × (first.bytes ≡ letter ∷ digits) × (kind_by_letter letter ≡ Some kind)
    × ((((id : ℤ) → ¬ IsId digits id) × (x ≡ fault_at BadNumber first.at)) ⊎ ((id : ℤ) × IsId digits id × FirstFault kind [] others nothing x)))

-- Bytes that aren't UTF-8 come before all other faults.
pub record HasFault (line : List ℕ) (x : LineFault) : Type 0 where
  pub first : Part
  pub others : List Part
  pub kept : IsKept line first others
  pub why : ((¬ IsUtf8 (without_cr line)) × (x ≡ fault_at NotUtf8 (utf8_valid_len (without_cr line))))
      ⊎ (IsUtf8 (without_cr line) × ObjectFault first others x)

-- what an error says of the line; nothing if memory ran out
abbrev pub Explains : List ℕ → LineError → Type 0
Explains line OutOfMemory = Unit {0}
Explains line (Fault x) = HasFault line x
