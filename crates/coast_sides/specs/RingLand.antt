-- Land of rings, with what is told of it.
use Rattle.std.specs.Prelude.{◌≡◌, List, filter, map}
use Rattle.osm_segments.specs.Repeats.{AreRepeats}
use Rattle.coast_rings.specs.declared.ring.CoastRing.{CoastRing}
use Rattle.coast_sides.specs.declared.land_parts.Land.{Land}
use Rattle.coast_sides.specs.Land.{IsLand}
use Rattle.coast_sides.specs.Segments.{all_segments}
use Rattle.coast_sides.specs.WrongWays.{runs_against}

-- Land of rings. Its repeats are the segments of rings that occur at least twice, before any cancelling.
-- Its wrong ways are the names of the rings one of whose steps runs against an edge, in order.
pub record IsLandOf (rings : List CoastRing) (land : Land) : Type 0 where
  pub edges : IsLand (all_segments rings) land.edges
  pub repeats : AreRepeats (all_segments rings) land.repeats
  pub wrong_way : land.wrong_way ≡ map (λ ring. ring.name) (filter (runs_against land.edges) rings)
