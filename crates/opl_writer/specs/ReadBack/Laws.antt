-- Written objects as an input, as statements.
use Rattle.std.specs.Prelude.{◌≡◌, ◌≤◌, ℕ, All, IsTrue, List, Ok, Result, length, map}
use Rattle.opl_reader.specs.Lines.{lines_of}
use Rattle.opl_reader.specs.Spells.{Spells}
use Rattle.osm_elements.specs.declared.object.Object.{Object}
use Rattle.opl_writer.specs.Writable.{IsWritable}
use Rattle.opl_writer.specs.Written.{object_line, objects_text}
use Rattle.osm_input.specs.Input.{IsBadPlace, objects_told}
use Rattle.osm_input.specs.Reading.{IsReadAs}
use Rattle.osm_input.specs.declared.fault.InputFault.{InputFault}
use Rattle.osm_input.specs.declared.fault.InputFault.TheVariants.{TooLong}
use Rattle.osm_input.specs.declared.reading.ReadError.{ReadError}
use Rattle.osm_objects.specs.Object.{is_live}
use Rattle.osm_objects.specs.Objects.{AreApart}

-- Objects that make an input: a line can spell each of them, and no two have one kind and id.
pub record CanBeInput (objects : List Object) : Type 0 where
  pub writable : All IsWritable objects
  pub apart : AreApart objects

-- a line spells each of them
abbrev pub AreSpelled : List Object → Type 0
AreSpelled objects = All (λ o. (line : List ℕ) × Spells line o) objects

-- they make an input if they are live and no two have one kind and id
abbrev pub SpelledObjectsCanBeWritten : Type 0
SpelledObjectsCanBeWritten =
    (objects : List Object) → AreSpelled objects → All (λ o. IsTrue (is_live o)) objects → AreApart objects → CanBeInput objects

-- within the limits of an input and of a line, the text of objects that make an input is read as them
abbrev pub WrittenInputsAreRead : Type 0
WrittenInputsAreRead =
    (limit longest : ℕ) (objects : List Object) → CanBeInput objects →
    length (objects_text objects) ≤ limit → All (λ line. length line ≤ longest) (map object_line objects) →
    IsReadAs limit longest (objects_text objects) (Ok objects)

-- The lines of their text tell them, and a bad line among these is too long.
pub record HasNoOtherFault (longest : ℕ) (objects : List Object) : Type 0 where
  pub told : objects_told (lines_of (objects_text objects)) ≡ objects
  pub bad : (number : ℕ) (fault : InputFault) → IsBadPlace longest (lines_of (objects_text objects)) number fault → fault ≡ TooLong

abbrev pub OnlyLongLinesAreBad : Type 0
OnlyLongLinesAreBad = (longest : ℕ) (objects : List Object) → CanBeInput objects → HasNoOtherFault longest objects

-- what an input is read as makes an input
abbrev pub ReadObjectsCanBeWritten : Type 0
ReadObjectsCanBeWritten =
    (limit longest : ℕ) (bytes : List ℕ) (objects : List Object) → IsReadAs limit longest bytes (Ok objects) → CanBeInput objects

-- an input that is read as objects isn't read as anything else
abbrev pub ReadAloneAsObjects : Type 0
ReadAloneAsObjects =
    (limit longest : ℕ) (bytes : List ℕ) (objects : List Object) (other : Result (List Object) ReadError) →
    IsReadAs limit longest bytes (Ok objects) → IsReadAs limit longest bytes other → other ≡ Ok objects
