-- What a locate job must write in all, and how it must end.
use Rattle.std.specs.Prelude.{◌≡◌, ℕ, List, [], ◌∷◌, map}
use Rattle.osm_elements.specs.declared.object.Object.{Object}
use Rattle.osm_lattice.specs.declared.loc.Loc.{Loc}
use Rattle.osm_objects.specs.declared.choice.Choice.{Choice}
use Rattle.osm_host.specs.Outside.{Outside, output}
use Rattle.osm_words.specs.Job.{LocateSettings}
use Rattle.osm_job.specs.declared.ended.Ended.{Ended}
use Rattle.osm_job.specs.declared.ended.Ended.TheVariants as ended
use Rattle.osm_job.specs.Sent.{to_output}
use Rattle.osm_job.specs.Whole.{Whole, silent}
use Rattle.osm_job.specs.Worked.{ReadBoth}
use Rattle.osm_input.specs.PointLines.Points.{ArePoints, IsBadPoint}
use Rattle.area_locate.specs.declared.found.Found.{Found}
use Rattle.area_locate.specs.Hits.{AreFound}
use Rattle.job_small.specs.Locating.Lines.{point_lines}

-- which objects have areas
abbrev pub choice_of : LocateSettings → Choice
choice_of settings = record {
  keep_untagged = settings.keep_untagged;
  area_keys = settings.area_keys;
  linear_keys = settings.linear_keys;
}

-- the lines of points go to the output
abbrev pub whole_of_points : List Found → Whole
whole_of_points found = record { written = map to_output (point_lines found); ended = ended.Done }

-- Each point of the text is located among the areas of the objects, and its line goes to the output.
-- Or the text has a bad line, and only the number of the first such line is written.
pub data IsLocate (settings : LocateSettings) (objects : List Object) (text : List ℕ) (whole : Whole) : Type 0 where
  points : (points : List Loc) (found : List Found) → ArePoints text points → AreFound (choice_of settings) objects points found →
      whole ≡ whole_of_points found → IsLocate settings objects text whole
  bad : (line : ℕ) → IsBadPoint text line → whole ≡ silent (ended.BadPoint line) → IsLocate settings objects text whole

-- A locate job ended like this: it reads its input and its points, opens its output, and writes what is right for them.
abbrev pub Locates : LocateSettings → Ended → Outside → Outside → Type 0
Locates settings ended before after =
    ReadBoth settings.file settings.points (output settings.output settings.overwrite ∷ []) (IsLocate settings) ended before after
