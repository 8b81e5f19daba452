-- What comes of the coastline ways of an input.
use Rattle.std.specs.Prelude.{◌≡◌, List, map}
use Rattle.std.specs.List.{flat_map}
use Rattle.osm_elements.specs.declared.object.Object.{Object}
use Rattle.osm_objects.specs.CoastWays.{coast_ways}
use Rattle.coast_join.specs.declared.chain.Chain.{Chain}
use Rattle.coast_join.specs.declared.gap.Closings.{Closings}
use Rattle.coast_join.specs.declared.joined.Joined.{Joined}
use Rattle.coast_join.specs.declared.way.Aside.{Aside}
use Rattle.coast_join.specs.declared.way.CoastWay.{CoastWay}
use Rattle.coast_join.specs.Chains.{AreChains, way_path_of}
use Rattle.coast_join.specs.Closings.{AreClosings}
use Rattle.coast_join.specs.Input.{asides_of, way_paths_in}
use Rattle.coast_join.specs.Joined.{AreJoined}
use Rattle.coast_sides.specs.declared.land_parts.Land.{Land}
use Rattle.coast_sides.specs.declared.sorted.Sorted.{Sorted}
use Rattle.coast_sides.specs.RingLand.{IsLandOf}
use Rattle.coast_sides.specs.CutSorting.{IsSortedWith}
use Rattle.osm_words.specs.Job.{CoastlineSettings}

pub record Coast : Type 0 where
  -- what keeps coastline ways from taking part
  pub asides : List Aside
  -- the ways that take part, put together
  pub chains : List Chain
  -- which unclosed chains are closed
  pub closings : Closings
  -- the rings, and the chains that are still unclosed
  pub joined : Joined
  -- the rings that are kept, those that are left out, the conflicts, and what was cut out of rings
  pub sorted : Sorted
  -- the edges of land, and what is noted of the rings that are kept
  pub land : Land

-- It comes of the coastline ways of these objects, with gaps closed below a distance, and crossings cut or not.
pub record IsCoast (settings : CoastlineSettings) (objects : List Object) (coast : Coast) : Type 0 where
  pub ways : List CoastWay
  pub taking_part : map way_path_of ways ≡ flat_map (way_paths_in objects) (coast_ways objects)
  pub asides : coast.asides ≡ flat_map (asides_of objects) (coast_ways objects)
  pub chains : AreChains ways coast.chains
  pub closings : AreClosings coast.chains settings.close_distance coast.closings
  pub joined : AreJoined coast.chains coast.closings coast.joined
  pub sorted : IsSortedWith settings.cut_crossings coast.joined.rings coast.sorted
  pub land : IsLandOf coast.sorted.kept coast.land
