-- Laws of the coast part of an input, as statements.
use Rattle.std.specs.Prelude.{◌≡◌, ℕ, All, List}
use Rattle.std.specs.List.{flat_map}
use Rattle.opl_reader.specs.Lines.{lines_of}
use Rattle.osm_elements.specs.declared.object.Object.{Object}
use Rattle.opl_writer.specs.Writable.{IsWritable}
use Rattle.opl_writer.specs.Written.{objects_text}
use Rattle.osm_objects.specs.CoastWays.{coast_ways}
use Rattle.osm_objects.specs.Objects.{AreApart}
use Rattle.coast_join.specs.Input.{asides_of, way_paths_in as lines_taking_part}
use Rattle.osm_input.specs.Input.{IsBadPlace, objects_told}
use Rattle.osm_input.specs.declared.fault.InputFault.{InputFault}
use Rattle.osm_input.specs.declared.fault.InputFault.TheVariants.{TooLong}
use Rattle.opl_writer.specs.ReadBack.Laws.{CanBeInput}
use Rattle.coast_filter.specs.CoastPart.{coast_part}

-- Both have the same coast input: the coast ways that take part, with their paths, and what keeps the others out, in order.
pub record HaveOneCoastInput (objects others : List Object) : Type 0 where
  pub ways : coast_ways objects ≡ coast_ways others
  pub taking_part : flat_map (lines_taking_part objects) (coast_ways objects) ≡ flat_map (lines_taking_part others) (coast_ways others)
  pub asides : flat_map (asides_of objects) (coast_ways objects) ≡ flat_map (asides_of others) (coast_ways others)

-- the coast part of objects no two of which have one kind and id has their coast input
abbrev pub CoastInputStays : Type 0
CoastInputStays = (objects : List Object) → AreApart objects → HaveOneCoastInput (coast_part objects) objects

-- it is its own coast part
abbrev pub CoastPartStays : Type 0
CoastPartStays = (objects : List Object) → coast_part (coast_part objects) ≡ coast_part objects

-- in it, too, no two objects have one kind and id
abbrev pub CoastPartIsApart : Type 0
CoastPartIsApart = (objects : List Object) → AreApart objects → AreApart (coast_part objects)

-- a line can spell each object of it, if one can spell each of the input
abbrev pub CoastPartIsWritable : Type 0
CoastPartIsWritable = (objects : List Object) → All IsWritable objects → All IsWritable (coast_part objects)

-- What a text tells as an input: the coast part of these objects and nothing else.
-- Nothing is wrong but lines that are too long, and it has their coast input.
pub record TellsCoastOf (objects : List Object) (text : List ℕ) : Type 0 where
  pub told : objects_told (lines_of text) ≡ coast_part objects
  pub bad : (longest number : ℕ) (fault : InputFault) → IsBadPlace longest (lines_of text) number fault → fault ≡ TooLong
  pub input : HaveOneCoastInput (objects_told (lines_of text)) objects

-- so does the text of the coast part of objects that make an input
abbrev pub CoastTextTellsCoast : Type 0
CoastTextTellsCoast = (objects : List Object) → CanBeInput objects → TellsCoastOf objects (objects_text (coast_part objects))
