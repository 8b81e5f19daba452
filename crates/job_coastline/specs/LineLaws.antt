-- A law of the lines of a coastline's report, as a statement.
use Rattle.std.specs.Prelude.{All, List}
use Rattle.osm_elements.specs.declared.object.Object.{Object}
use Rattle.osm_text.specs.Coast.{HasItsKind}
use Rattle.osm_words.specs.Job.{CoastlineSettings}
use Rattle.job_coastline.specs.Coast.{Coast, IsCoast}
use Rattle.job_coastline.specs.Coastline.{all_lines}
use Rattle.job_coastline.specs.Pieces.{Tile}

-- the conflicts of a report are of the kinds that their segments have
abbrev pub LinesHaveKinds : Type 0
LinesHaveKinds =
    (settings : CoastlineSettings) (objects : List Object) (coast : Coast) → IsCoast settings objects coast →
    (land water : List Tile) → All HasItsKind (all_lines coast land water)
