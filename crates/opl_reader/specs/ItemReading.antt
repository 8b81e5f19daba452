-- Items as functions of their bytes, each with the byte at which it begins.
use Rattle.std.specs.Prelude.{ℕ, ◌+◌, Bool, ◌==◌, nat_lt, if◌then◌else◌, List, [], ◌∷◌, length, ℤ, Option, Some, None, option_map, option_and_then, Result, Ok}
use Rattle.std.specs.List.{slice_split, position_or_len, before_first, after_first}
use Rattle.opl_reader.specs.declared.fault.FaultKind.TheVariants.{BadTag, BadReference, BadMember}
use Rattle.opl_reader.specs.declared.fault.LineFault.{LineFault}
use Rattle.osm_lattice.specs.declared.loc.Loc.{Loc}
use Rattle.osm_elements.specs.declared.object.Tag.{Tag}
use Rattle.osm_elements.specs.declared.object.Ref.{Ref}
use Rattle.osm_elements.specs.declared.object.Member.{Member}
use Rattle.osm_elements.specs.declared.object.ObjectKind.{ObjectKind}
use Rattle.opl_reader.specs.Reading.{◌>>=◌, or_fault}
use Rattle.opl_reader.specs.Parts.{Part, part}
use Rattle.opl_reader.specs.Items.{kind_by_letter, first_of_each}
use Rattle.osm_elements.specs.Places.{location_from}
use Rattle.opl_reader.specs.NumberReading.{id_spelled}
use Rattle.opl_reader.specs.CoordinateReading.{x_spelled, y_spelled}
use Rattle.opl_reader.specs.StringReading.{string_at}

-- the parts of a text that begins at a byte, with one byte between neighbours
abbrev pub placed : ℕ → List (List ℕ) → List Part
placed at [] = []
placed at (bytes ∷ more) = part at bytes ∷ placed (at + length bytes + 1) more

abbrev pub is_comma : ℕ → Bool
is_comma b = b == 44

-- none if the text is empty; otherwise the texts between commas
unfoldable pub items : ℕ → List ℕ → List Part
items at bytes = placed at (if length bytes == 0 then [] else slice_split is_comma bytes)

-- each part is read, and the first that has no reading gives the fault
abbrev pub each : {A : Type 0} → (ℕ → List ℕ → Result A LineFault) → List Part → Result (List A) LineFault
each read [] = Ok []
each read (p ∷ parts) = read p.at p.bytes >>= λ x. each read parts >>= λ xs. Ok (x ∷ xs)

-- the bytes before the first such byte, and those after it
abbrev pub halves : ℕ → List ℕ → Option (List ℕ × List ℕ)
halves byte bytes = if nat_lt (position_or_len (λ b. b == byte) bytes) (length bytes) then Some (before_first (λ b. b == byte) bytes, after_first (λ b. b == byte) bytes) else None

-- ---- tags

-- key=value
unfoldable pub tag_at : ℕ → List ℕ → Result Tag LineFault
tag_at place bytes = do
  parts ← or_fault BadTag place (halves 61 bytes)
  key ← string_at place parts.0
  value ← string_at place parts.1
  Ok (record { key = key; value = value })

unfoldable pub tags_at : ℕ → List ℕ → Result (List Tag) LineFault
tags_at place bytes = each tag_at (items place bytes) >>= λ tags. Ok (first_of_each tags)

-- ---- references

-- The own location after its x: a longitude or nothing, y, a latitude or nothing.
unfoldable pub own_place_of : List ℕ → Option (Option Loc)
own_place_of bytes = option_and_then (λ parts. option_and_then (λ x. option_map (λ y. location_from x y) (y_spelled parts.1)) (x_spelled parts.0)) (halves 121 bytes)

-- an id, and an own location if an x separates it from the id
abbrev pub ref_in : List ℕ → Option (List ℕ × List ℕ) → Option Ref
ref_in bytes None = option_map (λ id. record { node = id; at = None }) (id_spelled bytes)
ref_in bytes (Some parts) = option_and_then (λ id. option_map (λ at. record { node = id; at = at }) (own_place_of parts.1)) (id_spelled parts.0)

unfoldable pub ref_behind : List ℕ → Option Ref
ref_behind bytes = ref_in bytes (halves 120 bytes)

-- n, and a reference after it
unfoldable pub ref_spelled : List ℕ → Option Ref
ref_spelled [] = None
ref_spelled (b ∷ bytes) = if b == 110 then ref_behind bytes else None

unfoldable pub ref_at : ℕ → List ℕ → Result Ref LineFault
ref_at place bytes = or_fault BadReference place (ref_spelled bytes)

unfoldable pub refs_at : ℕ → List ℕ → Result (List Ref) LineFault
refs_at place bytes = each ref_at (items place bytes)

-- ---- members

-- a letter and an id
unfoldable pub target_of : List ℕ → Option (ObjectKind × ℤ)
target_of [] = None
target_of (b ∷ bytes) = option_and_then (λ kind. option_map (λ id. (kind, id)) (id_spelled bytes)) (kind_by_letter b)

-- a target, @ and a role
unfoldable pub member_at : ℕ → List ℕ → Result Member LineFault
member_at place bytes = do
  parts ← or_fault BadMember place (halves 64 bytes)
  target ← or_fault BadMember place (target_of parts.0)
  role ← string_at place parts.1
  Ok (record { kind = target.0; id = target.1; role = role })

unfoldable pub members_at : ℕ → List ℕ → Result (List Member) LineFault
members_at place bytes = each member_at (items place bytes)
