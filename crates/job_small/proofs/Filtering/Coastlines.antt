-- A coastline job is to write the same over the coast part of objects, and over its text, as over the objects.
use Rattle.std.proofs.Common.{◌≡◌, ◌∙◌, refl, sym, subst, ◌≤◌, List, Ok, All, length, map}
use Rattle.opl_reader.specs.Lines.{lines_of}
use Rattle.osm_elements.specs.declared.object.Object.{Object}
use Rattle.opl_writer.specs.Writable.{IsWritable}
use Rattle.opl_writer.specs.Written.{object_line, objects_text}
use Rattle.osm_input.specs.Reading.{IsReadAs}
use Rattle.osm_words.specs.Job.{CoastlineSettings}
use Rattle.osm_job.specs.Whole.{IsRightAfterReading, Whole, input_limit, longest_line}
use Rattle.osm_job.proofs.JobKit.{whole_same}
use Rattle.coast_filter.specs.CoastPart.{coast_part}
use Rattle.coast_filter.specs.Laws.{CoastInputStays, CoastPartIsApart, CoastPartIsWritable, HaveOneCoastInput}
use Rattle.job_coastline.specs.Coast.{Coast, IsCoast}
use Rattle.job_coastline.specs.Coastline.{AreCoastAreas, Areas, IsCoastline}
use Rattle.opl_writer.specs.ReadBack.Laws.{CanBeInput, ReadAloneAsObjects, ReadObjectsCanBeWritten, WrittenInputsAreRead}
use Rattle.job_small.specs.Filtering.Filter.{HasTheirCoastline, KeepsLimits, coast_text}
use Rattle.job_small.specs.Filtering.Laws.{FilterIsOne, FiltersExist}
use Rattle.osm_job.specs.TextWhole.{whole_of_text}

-- ---- one coast input, one coastline

module _ (settings : CoastlineSettings) (os us : List Object) (one : HaveOneCoastInput os us) where
  coast_there : (coast : Coast) → IsCoast settings us coast → IsCoast settings os coast
  coast_there coast is = record {
    ways = is.ways;
    taking_part = is.taking_part ∙ sym one.taking_part;
    asides = is.asides ∙ sym one.asides;
    chains = is.chains;
    closings = is.closings;
    joined = is.joined;
    sorted = is.sorted;
    land = is.land;
  }

  areas_there : (areas : Areas) → AreCoastAreas settings us areas → AreCoastAreas settings os areas
  areas_there areas are = record {
    coast = coast_there areas.coast are.coast;
    land = are.land;
    land_leaves = are.land_leaves;
    water = are.water;
    water_leaves = are.water_leaves;
  }

  coastline_there : (whole : Whole) → IsCoastline settings us whole → IsCoastline settings os whole
  coastline_there whole is = record {
    areas = is.areas;
    right = areas_there is.areas is.right;
    written = is.written;
  }

other_way : (os us : List Object) → HaveOneCoastInput os us → HaveOneCoastInput us os
other_way os us one = record { ways = sym one.ways; taking_part = sym one.taking_part; asides = sym one.asides }

-- ---- the text of the coast part

-- what the crate that writes them says of the lines of a text
abbrev pub LinesBack : Type 0
LinesBack = (objects : List Object) → All IsWritable objects → lines_of (objects_text objects) ≡ map object_line objects

module _ (stays : CoastInputStays) (apart : CoastPartIsApart) (writable : CoastPartIsWritable) (lines : LinesBack) (reads : WrittenInputsAreRead) (alone : ReadAloneAsObjects) where
  part_can : (objects : List Object) → CanBeInput objects → CanBeInput (coast_part objects)
  part_can objects can = record { writable = writable objects can.writable; apart = apart objects can.apart }

  part_read : (objects : List Object) → CanBeInput objects → KeepsLimits (coast_text objects) → IsReadAs input_limit longest_line (coast_text objects) (Ok (coast_part objects))
  part_read objects can fits =
      reads input_limit longest_line (coast_part objects) (part_can objects can) fits.bytes
      (subst (All (λ line. length line ≤ longest_line)) (lines (coast_part objects) (part_can objects can).writable) fits.lines)

  same_coastline : (objects : List Object) → CanBeInput objects → KeepsLimits (coast_text objects) → HasTheirCoastline objects (coast_text objects)
  same_coastline objects can fits settings whole =
      let one = stays objects can.apart in
      let read = part_read objects can fits in (
        (λ is. record { read = Ok (coast_part objects); is_read = read; after = coastline_there settings (coast_part objects) objects one whole is }),
        (λ then.
            coastline_there settings objects (coast_part objects) (other_way (coast_part objects) objects one) whole
            (subst (λ r. IsRightAfterReading (IsCoastline settings) r whole) (alone input_limit longest_line (coast_text objects) (coast_part objects) then.read read then.is_read) then.after)),
      )

  pub filter_there : ReadObjectsCanBeWritten → FiltersExist
  filter_there sound limit longest bytes objects read = (
    whole_of_text (coast_text objects),
    record { written = refl; ended = refl; same = same_coastline objects (sound limit longest bytes objects read) },
  )

-- ---- it is one

pub filter_one : FilterIsOne
filter_one objects v w s t = whole_same v w (s.written ∙ sym t.written) (s.ended ∙ sym t.ended)
