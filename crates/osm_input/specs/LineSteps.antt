-- Words of private clauses on the lines of an input that comes in pieces. No public contract cites them.
use Rattle.std.specs.Prelude.{◌≡◌, ◌<◌, ℕ, List, ◌++◌, length, take, Option, None, Some, Result, Ok, Err}
use Rattle.std.specs.List.{filter_map}
use Rattle.opl_reader.specs.declared.feed.FeedError.{FeedError}
use Rattle.opl_reader.specs.declared.feed.FeedError.TheVariants as feed
use Rattle.osm_elements.specs.declared.object.Object.{Object}
use Rattle.opl_reader.specs.Chunking.{HandsOut}
use Rattle.opl_reader.specs.Lines.{whole_lines, lines_of}
use Rattle.opl_reader.specs.Reader.{Reader}
use Rattle.opl_reader.specs.Told.{object_told}
use Rattle.osm_objects.specs.Objects.{with_object}
use Rattle.osm_input.specs.declared.fault.InputFault.{InputFault}
use Rattle.osm_input.specs.declared.fault.InputFault.TheVariants as fault
use Rattle.osm_input.specs.declared.reading.ReadError.{ReadError}
use Rattle.osm_input.specs.declared.reading.ReadError.TheVariants.{BadInput, TooMuchInput, ReadFault, OutOfMemory}
use Rattle.osm_input.specs.Input.{objects_told, AreGood, IsBadPlace}
use Rattle.osm_input.specs.Lines.{lines_begun}

-- ---- one line

-- the error names this line and what is wrong with it, or memory ran out
abbrev pub IsLineError : ℕ → Option InputFault → ReadError → Type 0
IsLineError number found (BadInput line fault) = (line ≡ number) × (found ≡ Some fault)
IsLineError number found (TooMuchInput limit) = ⊥
IsLineError number found ReadFault = ⊥
IsLineError number found OutOfMemory = Unit {0}

-- the error of an input whose lines were refused with this error
abbrev pub IsErrorOfRefusal : FeedError → ReadError → Type 0
IsErrorOfRefusal (feed.Line number found) error = error ≡ BadInput number (fault.Line found)
IsErrorOfRefusal (feed.TooLong number) error = error ≡ BadInput number fault.TooLong
IsErrorOfRefusal feed.Ended error = ⊥
IsErrorOfRefusal feed.OutOfMemory error = error ≡ OutOfMemory

-- objects and that of a further line, if it is live
abbrev pub with_live : List Object → Option Object → List Object
with_live objects None = objects
with_live objects (Some object) = with_object objects object

-- ---- pieces

-- The whole lines of these bytes were read, and none is bad. These are their objects, and the reader goes on after them.
pub record HasReadLines (longest : ℕ) (bytes : List ℕ) (r : Reader) (objects : List Object) : Type 0 where
  pub fed : HandsOut longest bytes (filter_map object_told (whole_lines bytes)) r
  pub good : AreGood longest (whole_lines bytes)
  pub told : objects ≡ objects_told (whole_lines bytes)

-- The bad place of bytes followed by a piece is a line that the bytes alone don't have yet.
pub record IsBadBehind (longest : ℕ) (bytes piece : List ℕ) (number : ℕ) (found : InputFault) : Type 0 where
  pub bad : IsBadPlace longest (lines_begun longest (bytes ++ piece)) number found
  pub behind : length (lines_begun longest bytes) < number

-- why a piece after these bytes is refused
abbrev pub IsRefusedBy : ℕ → List ℕ → List ℕ → ReadError → Type 0
IsRefusedBy longest bytes piece (BadInput number found) = IsBadBehind longest bytes piece number found
IsRefusedBy longest bytes piece (TooMuchInput limit) = ⊥
IsRefusedBy longest bytes piece ReadFault = ⊥
IsRefusedBy longest bytes piece OutOfMemory = Unit {0}

-- this many bytes of a piece were read after these bytes, or it is refused
abbrev pub ReadsSome : ℕ → List ℕ → List ℕ → Reader → List Object → Result ℕ ReadError → Type 0
ReadsSome longest bytes piece r objects (Ok used) = HasReadLines longest (bytes ++ take used piece) r objects
ReadsSome longest bytes piece r objects (Err error) = IsRefusedBy longest bytes piece error

-- a piece was read after these bytes, or it is refused
abbrev pub ReadsPiece : {A : Type 0} → ℕ → List ℕ → List ℕ → Reader → List Object → Result A ReadError → Type 0
ReadsPiece longest bytes piece r objects (Ok done) = HasReadLines longest (bytes ++ piece) r objects
ReadsPiece longest bytes piece r objects (Err error) = IsRefusedBy longest bytes piece error

-- ---- all lines

-- The objects of all lines of these bytes, if none is bad.
-- Or their bad place, a line that doesn't count before the input ends. Or memory ran out.
abbrev pub ReadsAll : ℕ → List ℕ → Result (List Object) ReadError → Type 0
ReadsAll longest bytes (Ok objects) = AreGood longest (lines_of bytes) × (objects ≡ objects_told (lines_of bytes))
ReadsAll longest bytes (Err (BadInput number found)) =
    IsBadPlace longest (lines_of bytes) number found × (length (lines_begun longest bytes) < number)
ReadsAll longest bytes (Err (TooMuchInput limit)) = ⊥
ReadsAll longest bytes (Err ReadFault) = ⊥
ReadsAll longest bytes (Err OutOfMemory) = Unit {0}
