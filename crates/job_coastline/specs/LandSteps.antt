-- Words of a private clause on land of the rings that are kept. No public contract cites it.
use Rattle.std.specs.Prelude.{◌≡◌, ◌++◌, List, map}
use Rattle.osm_geom.specs.declared.edge.Edge.{Edge}
use Rattle.osm_text.specs.declared.coast.CoastLine.{CoastLine}
use Rattle.coast_rings.specs.declared.ring.CoastRing.{CoastRing}
use Rattle.coast_sides.specs.declared.land_parts.Land.{Land}
use Rattle.coast_sides.specs.RingLand.{IsLandOf}
use Rattle.job_coastline.specs.Report.{repeated_line, wrong_way_line}

-- Land of kept rings has these edges; lines of what is noted of the rings were added.
pub record KeepsLand (kept : List CoastRing) (edges : List Edge) (before after : List CoastLine) : Type 0 where
  pub land : Land
  pub is_land : IsLandOf kept land
  pub has : edges ≡ land.edges
  pub told : after ≡ before ++ (map repeated_line land.repeats ++ map wrong_way_line land.wrong_way)
