-- Where no two segments of rings conflict, cutting crossings changes nothing.
use Rattle.std.proofs.Common.{Bool, List, [], false, true, ◌↔◌, ◌∷◌}
use Rattle.osm_elements.specs.declared.object.Object.{Object}
use Rattle.osm_job.specs.Whole.{Whole}
use Rattle.osm_nest.specs.declared.polygon.Polygon.{Polygon}
use Rattle.osm_words.specs.Job.{CoastlineSettings}
use Rattle.coast_rings.specs.declared.ring.CoastRing.{CoastRing}
use Rattle.coast_sides.specs.CutSorting.{ClearRingsStay, IsSortedWith}
use Rattle.coast_sides.specs.ExistenceLaws.{LandExists, SortedExists}
use Rattle.coast_sides.specs.Land.{HaveNoConflicts}
use Rattle.coast_sides.specs.Segments.{all_segments}
use Rattle.coast_sides.specs.declared.sorted.Sorted.{Sorted}
use Rattle.coast_split.specs.declared.leaves.Leaf.{Leaf}
use Rattle.job_coastline.specs.Coast.{Coast, IsCoast}
use Rattle.job_coastline.specs.Coastline.{AreCoastAreas, Areas, IsCoastline}
use Rattle.job_coastline.specs.Pieces.{AreLeavesOf}
use Rattle.one_output.specs.OneCoast.ClearCoasts.{ClearCoastsStay, HaveClearRings, cutting}

sorted_with : ClearRingsStay → (a b : Bool) (rings : List CoastRing) (sorted : Sorted) → HaveNoConflicts (all_segments rings) → IsSortedWith a rings sorted → IsSortedWith b rings sorted
sorted_with stay true true rings sorted clear is = is
sorted_with stay true false rings sorted clear is = (stay rings sorted clear).0 is
sorted_with stay false true rings sorted clear is = (stay rings sorted clear).1 is
sorted_with stay false false rings sorted clear is = is

module _ (settings : CoastlineSettings) (a b : Bool) where
  leaves_with : (polygons : List Polygon) (leaves : List Leaf) → AreLeavesOf (cutting a settings) polygons leaves → AreLeavesOf (cutting b settings) polygons leaves
  leaves_with [] leaves are = are
  leaves_with (polygon ∷ polygons) leaves are = (are.0, are.1, are.2, leaves_with polygons are.1 are.3, are.4)

  module _ (stay : ClearRingsStay) (objects : List Object) where
    coast_with : (coast : Coast) → HaveNoConflicts (all_segments coast.joined.rings) → IsCoast (cutting a settings) objects coast → IsCoast (cutting b settings) objects coast
    coast_with coast clear is = record {
      ways = is.ways;
      taking_part = is.taking_part;
      asides = is.asides;
      chains = is.chains;
      closings = is.closings;
      joined = is.joined;
      sorted = sorted_with stay a b coast.joined.rings coast.sorted clear is.sorted;
      land = is.land;
    }

    areas_with : (areas : Areas) → HaveNoConflicts (all_segments areas.coast.joined.rings) → AreCoastAreas (cutting a settings) objects areas → AreCoastAreas (cutting b settings) objects areas
    areas_with areas clear are = record {
      coast = coast_with areas.coast clear are.coast;
      land = are.land;
      land_leaves = leaves_with areas.land areas.land_leaves are.land_leaves;
      water = are.water;
      water_leaves = leaves_with areas.water areas.water_leaves are.water_leaves;
    }

    coastline_with : (whole : Whole) (is : IsCoastline (cutting a settings) objects whole) → HaveNoConflicts (all_segments is.areas.coast.joined.rings) → IsCoastline (cutting b settings) objects whole
    coastline_with whole is clear = record { areas = is.areas; right = areas_with is.areas clear is.right; written = is.written }

module _ (stay : ClearRingsStay) (some_sorted : SortedExists) (some_land : LandExists) where
  -- the rings are those of the coast without cutting
  clear_rings : (settings : CoastlineSettings) (objects : List Object) → HaveClearRings (cutting false settings) objects → (coast : Coast) → IsCoast (cutting true settings) objects coast →
      HaveNoConflicts (all_segments coast.joined.rings)
  clear_rings settings objects clear coast is =
      let sorted = some_sorted false coast.joined.rings in
      let land = some_land sorted.0.kept (sorted.2 (λ cut. is.joined.rings_rise)) in
      let uncut : Coast = record coast { sorted = sorted.0; land = land.0 } in
      clear uncut
      (record {
        ways = is.ways;
        taking_part = is.taking_part;
        asides = is.asides;
        chains = is.chains;
        closings = is.closings;
        joined = is.joined;
        sorted = sorted.1;
        land = land.1;
      })

  pub clear_coasts_stay : ClearCoastsStay
  clear_coasts_stay settings objects whole clear = (
    λ is. coastline_with settings true false stay objects whole is (clear_rings settings objects clear is.areas.coast is.right.coast),
    λ is. coastline_with settings false true stay objects whole is (clear is.areas.coast is.right.coast),
  )
