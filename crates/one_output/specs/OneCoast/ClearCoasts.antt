-- A law of coasts whose rings don't conflict, as a statement.
use Rattle.std.specs.Prelude.{◌↔◌, Bool, true, false, List}
use Rattle.osm_elements.specs.declared.object.Object.{Object}
use Rattle.coast_sides.specs.Land.{HaveNoConflicts}
use Rattle.coast_sides.specs.Segments.{all_segments}
use Rattle.osm_job.specs.Whole.{Whole}
use Rattle.osm_words.specs.Job.{CoastlineSettings}
use Rattle.job_coastline.specs.Coast.{Coast, IsCoast}
use Rattle.job_coastline.specs.Coastline.{IsCoastline}

-- the settings with crossings cut, or without
abbrev pub cutting : Bool → CoastlineSettings → CoastlineSettings
cutting cut settings = record settings { cut_crossings = cut }

-- no two segments of the rings that come of the coastline ways of these objects conflict
abbrev pub HaveClearRings : CoastlineSettings → List Object → Type 0
HaveClearRings settings objects = (coast : Coast) → IsCoast settings objects coast → HaveNoConflicts (all_segments coast.joined.rings)

-- where no two do, exactly what is right without cutting is right with it: output, report and ending
abbrev pub ClearCoastsStay : Type 0
ClearCoastsStay =
    (settings : CoastlineSettings) (objects : List Object) (whole : Whole) → HaveClearRings (cutting false settings) objects →
    IsCoastline (cutting true settings) objects whole ↔ IsCoastline (cutting false settings) objects whole
