-- Fields as functions of their bytes: the content that they make, or the first fault.
use Rattle.std.specs.Prelude.{ℕ, ◌+◌, Bool, true, false, ◌==◌, if◌then◌else◌, List, [], ◌∷◌, slice_index, Option, Some, None, Result, Ok}
use Rattle.std.specs.List.{list_any}
use Rattle.opl_reader.specs.declared.fault.FaultKind.TheVariants.{UnknownField, RepeatedField, BadNumber, BadFlag, BadCoordinate}
use Rattle.opl_reader.specs.declared.fault.LineFault.{LineFault}
use Rattle.osm_elements.specs.declared.object.ObjectKind.{ObjectKind}
use Rattle.opl_reader.specs.declared.field.Meaning.{Meaning}
use Rattle.opl_reader.specs.declared.field.Meaning.TheVariants.{Count, Flag, Anything, Name, X, Y, Tagged, Referring, Having}
use Rattle.opl_reader.specs.declared.content.Content.{Content}
use Rattle.opl_reader.specs.Reading.{◌>>=◌, no_reading, or_fault}
use Rattle.opl_reader.specs.Parts.{Part}
use Rattle.opl_reader.specs.Fields.{letter_of}
use Rattle.opl_reader.specs.NumberReading.{is_number}
use Rattle.opl_reader.specs.CoordinateReading.{x_spelled, y_spelled}
use Rattle.opl_reader.specs.StringReading.{string_at}
use Rattle.opl_reader.specs.ItemReading.{tags_at, refs_at, members_at}

-- ---- values

-- V or D
unfoldable pub flag_of : List ℕ → Option Bool
flag_of [] = None
flag_of (b ∷ []) = if b == 86 then Some true else (if b == 68 then Some false else None)
flag_of (b ∷ c ∷ bytes) = None

-- The content with the value of a field whose letter is at `place`.
unfoldable pub with_value : Meaning → ℕ → List ℕ → Content → Result Content LineFault
with_value Count place bytes c = if is_number bytes then Ok c else no_reading BadNumber place
with_value Flag place bytes c = or_fault BadFlag place (flag_of bytes) >>= λ live. Ok (record c { live = live })
with_value Anything place bytes c = Ok c
with_value Name place bytes c = string_at place bytes >>= λ name. Ok c
with_value X place bytes c = or_fault BadCoordinate place (x_spelled bytes) >>= λ x. Ok (record c { x = x })
with_value Y place bytes c = or_fault BadCoordinate place (y_spelled bytes) >>= λ y. Ok (record c { y = y })
with_value Tagged place bytes c = tags_at (place + 1) bytes >>= λ tags. Ok (record c { tags = tags })
with_value Referring place bytes c = refs_at (place + 1) bytes >>= λ refs. Ok (record c { refs = refs })
with_value Having place bytes c = members_at (place + 1) bytes >>= λ members. Ok (record c { members = members })

-- ---- fields

-- The content with a field, after fields with these letters.
unfoldable pub with_field : ObjectKind → List ℕ → ℕ → List ℕ → Content → Result Content LineFault
with_field kind seen place [] c = no_reading UnknownField place
with_field kind seen place (letter ∷ bytes) c = do
  meaning ← or_fault UnknownField place (letter_of kind letter)
  if list_any (λ s. s == letter) seen then no_reading RepeatedField place else with_value meaning place bytes c

-- The fields from left to right.
unfoldable pub with_fields : ObjectKind → List ℕ → List Part → Content → Result Content LineFault
with_fields kind seen [] c = Ok c
with_fields kind seen (f ∷ fields) c = with_field kind seen f.at f.bytes c >>= with_fields kind (slice_index f.bytes 0 ∷ seen) fields
