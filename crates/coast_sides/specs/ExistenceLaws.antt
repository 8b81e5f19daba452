-- The laws that what the crate gives exists, as statements.
use Rattle.std.specs.Prelude.{◌≡◌, All, Bool, List, true}
use Rattle.osm_geom.specs.declared.edge.Edge.{Edge}
use Rattle.osm_geom.specs.WholeSegment.{IsWholeSegment}
use Rattle.osm_geom.specs.InPlane.Sided.{IsSided}
use Rattle.coast_rings.specs.declared.ring.CoastRing.{CoastRing}
use Rattle.coast_sides.specs.declared.land_parts.Land.{Land}
use Rattle.coast_sides.specs.declared.sorted.Sorted.{Sorted}
use Rattle.coast_sides.specs.CutSorting.{IsSortedWith, NamesOfRingsRise}
use Rattle.coast_sides.specs.Land.{HaveNoConflicts}
use Rattle.coast_sides.specs.RingLand.{IsLandOf}
use Rattle.coast_sides.specs.Segments.{all_segments}
use Rattle.coast_sides.specs.Water.{IsWater, segments_under}

-- every list of rings is sorted out somehow, with its crossings cut and without; and the kept ones are without conflicts, where
-- with a cut the names rise
abbrev pub SortedExists : Type 0
SortedExists =
    (cut : Bool) (rings : List CoastRing) → (sorted : Sorted) × IsSortedWith cut rings sorted × ((cut ≡ true → NamesOfRingsRise rings) → HaveNoConflicts (all_segments sorted.kept))

-- rings without conflicts have land
abbrev pub LandExists : Type 0
LandExists = (rings : List CoastRing) → HaveNoConflicts (all_segments rings) → (land : Land) × IsLandOf rings land

-- sided edges along whole segments have water
abbrev pub WaterExists : Type 0
WaterExists = (land : List Edge) → All IsWholeSegment land → IsSided land → (water : List Edge) × IsWater (segments_under land) water
