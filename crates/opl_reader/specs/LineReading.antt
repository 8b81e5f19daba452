-- A line as a function of its bytes: passed over, an object, or the first fault with its kind and place.
use Rattle.std.specs.Prelude.{ℕ, Bool, ◌||◌, ◌==◌, nat_lt, if◌then◌else◌, List, [], ◌∷◌, length, slice_index, ℤ, Option, Some, None, Result, Ok}
use Rattle.std.specs.List.{slice_split, filter}
use Rattle.std.specs.Str.{is_utf8}
use Rattle.std.specs.Str.Lossy.{utf8_valid_len}
use Rattle.opl_reader.specs.declared.fault.FaultKind.TheVariants.{NotUtf8, UnknownObject, BadNumber}
use Rattle.opl_reader.specs.declared.fault.LineFault.{LineFault}
use Rattle.osm_elements.specs.declared.object.ObjectKind.{ObjectKind}
use Rattle.osm_elements.specs.declared.object.Object.{Object}
use Rattle.opl_reader.specs.Reading.{◌>>=◌, no_reading, or_fault}
use Rattle.opl_reader.specs.Parts.{Part, without_cr}
use Rattle.opl_reader.specs.Items.{kind_by_letter}
use Rattle.opl_reader.specs.Fields.{nothing, object_of}
use Rattle.opl_reader.specs.NumberReading.{id_spelled}
use Rattle.opl_reader.specs.ItemReading.{placed}
use Rattle.opl_reader.specs.FieldReading.{with_fields}

-- a space or a tab
abbrev pub is_separator : ℕ → Bool
is_separator b = b == 32 || b == 9

-- the parts that aren't empty
abbrev pub nonempty : List Part → List Part
nonempty parts = filter (λ p. nat_lt 0 (length p.bytes)) parts

-- the parts between separators, in a text that begins at a place
unfoldable pub fields_from : ℕ → List ℕ → List Part
fields_from place text = nonempty (placed place (slice_split is_separator text))

-- The first field: a letter and an id.
unfoldable pub head_at : ℕ → List ℕ → Result (ObjectKind × ℤ) LineFault
head_at place [] = no_reading UnknownObject place
head_at place (letter ∷ bytes) = do
  kind ← or_fault UnknownObject place (kind_by_letter letter)
  id ← or_fault BadNumber place (id_spelled bytes)
  Ok (kind, id)

-- a comment or a changeset
abbrev pub is_passed_over : Part → Bool
is_passed_over first = slice_index first.bytes 0 == 35 || slice_index first.bytes 0 == 99

-- The object of a line that is not passed over.
unfoldable pub object_in_parts : Part → List Part → Result Object LineFault
object_in_parts first others = do
  head ← head_at first.at first.bytes
  content ← with_fields head.0 [] others nothing
  Ok (object_of head.0 head.1 content)

-- what a text with these fields is
abbrev pub reading_of : List ℕ → List Part → Result (Option Object) LineFault
reading_of text [] = Ok None
reading_of text (first ∷ others) = if is_passed_over first then Ok None else (if is_utf8 text then (object_in_parts first others >>= λ o. Ok (Some o)) else no_reading NotUtf8 (utf8_valid_len text))

-- What a line is.
unfoldable pub reading : List ℕ → Result (Option Object) LineFault
reading line = reading_of (without_cr line) (fields_from 0 (without_cr line))
