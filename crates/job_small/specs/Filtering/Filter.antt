-- What a filter job must write in all, and how it must end.
use Rattle.std.specs.Prelude.{◌≡◌, ◌≤◌, ◌↔◌, ℕ, All, List, length, map}
use Rattle.opl_reader.specs.Lines.{lines_of}
use Rattle.osm_elements.specs.declared.object.Object.{Object}
use Rattle.opl_writer.specs.Written.{objects_text}
use Rattle.osm_host.specs.Outside.{Outside, output}
use Rattle.osm_words.specs.Job.{CoastlineSettings, FilterSettings}
use Rattle.osm_job.specs.declared.ended.Ended.{Ended}
use Rattle.osm_job.specs.declared.ended.Ended.TheVariants as ended
use Rattle.osm_job.specs.Sent.{to_output}
use Rattle.osm_job.specs.Whole.{IsReadThen, Whole, input_limit, longest_line}
use Rattle.osm_job.specs.Worked.{ReadThenWrote}
use Rattle.coast_filter.specs.CoastPart.{coast_part}
use Rattle.job_coastline.specs.Coastline.{IsCoastline}

-- A text keeps the limits of an input and of a line.
pub record KeepsLimits (text : List ℕ) : Type 0 where
  pub bytes : length text ≤ input_limit
  pub lines : All (λ line. length line ≤ longest_line) (lines_of text)

-- their coast part as OPL
abbrev pub coast_text : List Object → List ℕ
coast_text objects = objects_text (coast_part objects)

-- A coastline job must write the same over this text as over the objects, for any settings.
abbrev pub HasTheirCoastline : List Object → List ℕ → Type 0
HasTheirCoastline objects text =
    (settings : CoastlineSettings) (whole : Whole) → IsCoastline settings objects whole ↔ IsReadThen (IsCoastline settings) text whole

-- The coast part of the objects goes to the output as OPL.
-- If that text may be an input, a coastline job over it must write the same.
pub record IsFilter (objects : List Object) (whole : Whole) : Type 0 where
  pub written : whole.written ≡ map to_output (coast_text objects)
  pub ended : whole.ended ≡ ended.Done
  pub same : KeepsLimits (coast_text objects) → HasTheirCoastline objects (coast_text objects)

-- A filter job ended like this: it reads its input, opens its output, and writes what is right for the objects of the input.
abbrev pub Filters : FilterSettings → Ended → Outside → Outside → Type 0
Filters settings ended before after =
    ReadThenWrote settings.file (output settings.output settings.overwrite) IsFilter ended before after
