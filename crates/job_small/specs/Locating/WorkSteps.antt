-- Words of private clauses on the work of a locate job. No public contract cites them.
use Rattle.std.specs.Prelude.{◌≡◌, ℕ, List}
use Rattle.osm_job.specs.declared.ended.Ended.{Ended}
use Rattle.osm_job.specs.declared.ended.Ended.TheVariants as ended
use Rattle.osm_elements.specs.declared.object.Object.{Object}
use Rattle.osm_lattice.specs.declared.loc.Loc.{Loc}
use Rattle.osm_objects.specs.declared.choice.Choice.{Choice}
use Rattle.osm_input.specs.declared.points.reading.PointsError.{PointsError}
use Rattle.osm_input.specs.declared.points.reading.PointsError.TheVariants.{BadPoint, OutOfMemory}
use Rattle.area_locate.specs.declared.found.Found.{Found}
use Rattle.area_locate.specs.Hits.{AreFound}
use Rattle.job_small.specs.Locating.Lines.{point_lines}

-- how a run ends if its points can't be read
abbrev pub points_ended : PointsError → Ended
points_ended (BadPoint line) = ended.BadPoint line
points_ended OutOfMemory = ended.OutOfMemory

-- These are the lines of points, each located among the areas of the objects.
pub record TellsPoints (choice : Choice) (objects : List Object) (points : List Loc) (lines : List ℕ) : Type 0 where
  pub found : List Found
  pub right : AreFound choice objects points found
  pub told : lines ≡ point_lines found
