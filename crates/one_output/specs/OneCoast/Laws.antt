-- Laws of what a coastline job must do, as statements.
use Rattle.std.specs.Prelude.{List, ◌≡◌}
use Rattle.std.specs.List.{IsDistinct}
use Rattle.std.specs.Ordering.{int_eq}
use Rattle.osm_elements.specs.declared.object.Object.{Object}
use Rattle.osm_objects.specs.CoastWays.{coast_ways}
use Rattle.osm_words.specs.Job.{CoastlineSettings}
use Rattle.osm_job.specs.Whole.{Whole}
use Rattle.job_coastline.specs.Coast.{Coast, IsCoast}
use Rattle.job_coastline.specs.Coastline.{IsCoastline}
use Rattle.job_coastline.specs.Counts.{AreCoastCounts}
use Rattle.job_coastline.specs.declared.counts.CoastCounts.{CoastCounts}

-- Objects have at most one coast.
-- Their coastline ways determine what keeps ways from taking part, and the chains, closings, rings and land.
abbrev pub CoastIsOne : Type 0
CoastIsOne = (settings : CoastlineSettings) (objects : List Object) (c d : Coast) → IsCoast settings objects c → IsCoast settings objects d → c ≡ d

-- a coastline job over objects has at most one list of what it must write, and one ending
abbrev pub CoastlineIsOne : Type 0
CoastlineIsOne =
    (settings : CoastlineSettings) (objects : List Object) (v w : Whole) → IsCoastline settings objects v →
    IsCoastline settings objects w → v ≡ w

-- it has at most one number of lines of each kind
abbrev pub CoastCountsAreOne : Type 0
CoastCountsAreOne =
    (settings : CoastlineSettings) (objects : List Object) (c d : CoastCounts) → AreCoastCounts settings objects c →
    AreCoastCounts settings objects d → c ≡ d

-- if no two coastline ways have one id, there is a coast
abbrev pub CoastExists : Type 0
CoastExists =
    (settings : CoastlineSettings) (objects : List Object) → IsDistinct int_eq (coast_ways objects) →
    (coast : Coast) × IsCoast settings objects coast

-- then there is something that a coastline job must write
abbrev pub CoastlineExists : Type 0
CoastlineExists =
    (settings : CoastlineSettings) (objects : List Object) → IsDistinct int_eq (coast_ways objects) →
    (whole : Whole) × IsCoastline settings objects whole

-- then there are the numbers of its lines
abbrev pub CoastCountsExist : Type 0
CoastCountsExist =
    (settings : CoastlineSettings) (objects : List Object) → IsDistinct int_eq (coast_ways objects) →
    (counts : CoastCounts) × AreCoastCounts settings objects counts
