-- References in one block of bytes: each by how it differs from the first of them, and the first by how it differs from 0.
use Rattle.std.specs.Prelude.{◌≡◌, ℕ, zero, suc, Bool, if◌then◌else◌, List, [], ◌∷◌, ◌++◌, length, ℤ, pos, Option, Some, None}
use Rattle.std.specs.Option.{unwrap_or}
use Rattle.osm_lattice.specs.declared.loc.Loc.{Loc}
use Rattle.osm_elements.specs.declared.object.Ref.{Ref}
use Rattle.osm_elements.specs.Places.{location_from}
use Rattle.osm_elements.specs.Places.{longitude, latitude}
use Rattle.osm_elements.specs.Compact.{number_bytes, number_in, after_number, marked_bytes, marked_number, has_mark, difference, moved}

-- the id that ids are compared with: that of the first reference, and 0 before there is one
abbrev pub compared_id : Option Ref → ℤ
compared_id None = pos 0
compared_id (Some first) = first.node

-- the location that locations are compared with: that of the first reference, if it has one
abbrev pub place_from : Option Ref → Option Loc
place_from None = None
place_from (Some first) = first.at

-- its coordinates, or 0 if there is none
abbrev pub x_from : Option Loc → ℤ
x_from None = pos 0
x_from (Some at) = at.x

abbrev pub y_from : Option Loc → ℤ
y_from None = pos 0
y_from (Some at) = at.y

-- ---- references as bytes

-- the mark that tells whether there is a location
abbrev pub mark_of : Option Loc → ℕ
mark_of None = 0
mark_of (Some at) = 1

-- how x differs and how y differs, if there is a location
abbrev pub place_bytes : Option Loc → Option Loc → List ℕ
place_bytes from None = []
place_bytes from (Some at) = number_bytes (difference (x_from from) at.x) ++ number_bytes (difference (y_from from) at.y)

-- how the id differs, with the mark, and the location
abbrev pub ref_bytes : Option Ref → Ref → List ℕ
ref_bytes first r = marked_bytes (mark_of r.at) (difference (compared_id first) r.node) ++ place_bytes (place_from first) r.at

-- The references after a first one, if it is given. If it isn't, the first of them is the first one.
abbrev pub refs_bytes : Option Ref → List Ref → List ℕ
refs_bytes first [] = []
refs_bytes first (r ∷ refs) = ref_bytes first r ++ refs_bytes (Some (unwrap_or first r)) refs

-- ---- references from bytes

-- the location in front, if the mark says that there is one; None also if the bytes give no location of the world
unfoldable pub first_place : Bool → Option Loc → List ℕ → Option Loc
first_place marked from bytes = if marked then location_from (longitude (moved (x_from from) (number_in bytes))) (latitude (moved (y_from from) (number_in (after_number bytes)))) else None

-- the bytes after it
unfoldable pub after_place : Bool → List ℕ → List ℕ
after_place marked bytes = if marked then after_number (after_number bytes) else bytes

-- the reference in front
abbrev pub first_ref : Option Ref → List ℕ → Ref
first_ref first bytes = record { node = moved (compared_id first) (marked_number bytes); at = first_place (has_mark bytes) (place_from first) (after_number bytes) }

-- the bytes after it
abbrev pub after_ref : List ℕ → List ℕ
after_ref bytes = after_place (has_mark bytes) (after_number bytes)

-- at most this many of the references
abbrev pub refs_within : ℕ → Option Ref → List ℕ → List Ref
refs_within zero first bytes = []
refs_within (suc more) first [] = []
refs_within (suc more) first (byte ∷ bytes) = first_ref first (byte ∷ bytes) ∷ refs_within more (Some (unwrap_or first (first_ref first (byte ∷ bytes)))) (after_ref (byte ∷ bytes))

-- The references after a first one, if it is given: no more than there are bytes.
abbrev pub refs_behind : Option Ref → List ℕ → List Ref
refs_behind first bytes = refs_within (length bytes) first bytes

-- the last of some references with this one before them
abbrev pub last_behind : Option Ref → List Ref → Option Ref
last_behind last [] = last
last_behind last (r ∷ refs) = last_behind (Some r) refs

-- The bytes are those of references, and nothing else.
abbrev pub AreRefBytes : List ℕ → Type 0
AreRefBytes bytes = refs_bytes None (refs_behind None bytes) ≡ bytes
