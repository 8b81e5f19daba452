-- The objects that lines tell.
use Rattle.std.specs.Prelude.{ℕ, List, Option, None, Result, Ok, Err}
use Rattle.osm_elements.specs.declared.object.Object.{Object}
use Rattle.opl_reader.specs.declared.fault.LineFault.{LineFault}
use Rattle.opl_reader.specs.LineReading.{reading}

abbrev pub object_in : Result (Option Object) LineFault → Option Object
object_in (Ok object) = object
object_in (Err fault) = None

-- the object that a line spells
abbrev pub object_told : List ℕ → Option Object
object_told line = object_in (reading line)
