-- The objects of an input, and its bad place.
use Rattle.std.specs.Prelude.{◌≡◌, ◌+◌, ℕ, nat_lt, List, ◌∷◌, ◌++◌, length, filter, Option, None, Some, Result, Ok, Err, if◌then◌else◌}
use Rattle.std.specs.List.{filter_map}
use Rattle.osm_elements.specs.declared.object.Object.{Object}
use Rattle.opl_reader.specs.declared.fault.LineFault.{LineFault}
use Rattle.opl_reader.specs.LineReading.{reading}
use Rattle.osm_objects.specs.Object.{is_live, kind_of, id_of}
use Rattle.osm_objects.specs.Objects.{is_duplicate}
use Rattle.osm_input.specs.declared.fault.InputFault.{InputFault}
use Rattle.osm_input.specs.declared.fault.InputFault.TheVariants.{Line, TooLong, Duplicate}
use Rattle.opl_reader.specs.Told.{object_told}

-- the live objects that lines tell, in order
abbrev pub objects_told : List (List ℕ) → List Object
objects_told lines = filter is_live (filter_map object_told lines)

abbrev pub fault_in : List Object → Result (Option Object) LineFault → Option InputFault
fault_in earlier (Err fault) = Some (Line fault)
fault_in earlier (Ok None) = None
fault_in earlier (Ok (Some object)) =
    if is_duplicate earlier object then Some (Duplicate (kind_of object) (id_of object)) else None

-- What is wrong with a line after lines with these objects: it is too long, has no reading, or tells a live object again.
abbrev pub line_fault : ℕ → List Object → List ℕ → Option InputFault
line_fault longest earlier line =
    if nat_lt longest (length line) then Some TooLong else fault_in earlier (reading line)

-- Nothing is wrong with any of these lines.
abbrev pub AreGood : ℕ → List (List ℕ) → Type 0
AreGood longest lines =
    (before : List (List ℕ)) (line : List ℕ) (after : List (List ℕ)) → lines ≡ before ++ line ∷ after →
    line_fault longest (objects_told before) line ≡ None

-- The bad place: the first line with a fault, by its number from 1, and the fault.
pub record IsBadPlace (longest : ℕ) (lines : List (List ℕ)) (number : ℕ) (fault : InputFault) : Type 0 where
  pub before : List (List ℕ)
  pub line : List ℕ
  pub after : List (List ℕ)
  pub parted : lines ≡ before ++ line ∷ after
  pub counted : number ≡ length before + 1
  pub good_before : AreGood longest before
  pub bad : line_fault longest (objects_told before) line ≡ Some fault
