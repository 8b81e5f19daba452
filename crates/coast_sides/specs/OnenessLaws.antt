-- The laws that there is one of what the crate gives, as statements.
use Rattle.std.specs.Prelude.{◌≡◌, Bool, List}
use Rattle.osm_geom.specs.declared.edge.Edge.{Edge}
use Rattle.osm_lattice.specs.declared.seg.Seg.{Seg}
use Rattle.coast_rings.specs.declared.ring.CoastRing.{CoastRing}
use Rattle.coast_sides.specs.declared.land_parts.Land.{Land}
use Rattle.coast_sides.specs.declared.sorted.Sorted.{Sorted}
use Rattle.coast_sides.specs.CutSorting.{IsSortedWith}
use Rattle.coast_sides.specs.RingLand.{IsLandOf}
use Rattle.coast_sides.specs.Water.{IsWater}

-- rings are sorted out in one way, with their crossings cut and without
abbrev pub SortedIsOne : Type 0
SortedIsOne = (cut : Bool) (rings : List CoastRing) (a b : Sorted) → IsSortedWith cut rings a → IsSortedWith cut rings b → a ≡ b

-- rings have one land
abbrev pub LandIsOne : Type 0
LandIsOne = (rings : List CoastRing) (a b : Land) → IsLandOf rings a → IsLandOf rings b → a ≡ b

-- segments of land have one water
abbrev pub WaterIsOne : Type 0
WaterIsOne = (land : List Seg) (a b : List Edge) → IsWater land a → IsWater land b → a ≡ b
