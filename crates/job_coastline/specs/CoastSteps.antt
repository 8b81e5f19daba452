-- Words of private clauses on what comes of coastline ways, step by step. No public contract cites it.
use Rattle.std.specs.Prelude.{◌≡◌, ◌++◌, ℕ, List, map}
use Rattle.std.specs.List.{IsDistinct, filter_map, flat_map}
use Rattle.std.specs.Ordering.{int_eq}
use Rattle.osm_elements.specs.declared.object.Object.{Object}
use Rattle.osm_geom.specs.declared.edge.Edge.{Edge}
use Rattle.osm_objects.specs.CoastWays.{coast_ways}
use Rattle.osm_text.specs.declared.coast.CoastLine.{CoastLine}
use Rattle.osm_words.specs.Job.{CoastlineSettings}
use Rattle.coast_join.specs.declared.chain.Chain.{Chain}
use Rattle.coast_join.specs.declared.gap.Closings.{Closings}
use Rattle.coast_join.specs.declared.input.CoastInput.{CoastInput}
use Rattle.coast_join.specs.declared.joined.Joined.{Joined}
use Rattle.coast_join.specs.declared.way.CoastWay.{CoastWay}
use Rattle.coast_join.specs.Chains.{AreChains, way_path_of}
use Rattle.coast_join.specs.Closings.{AreClosings}
use Rattle.coast_join.specs.Input.{asides_of, way_paths_in}
use Rattle.coast_join.specs.Joined.{AreJoined}
use Rattle.coast_sides.specs.declared.land_parts.Land.{Land}
use Rattle.coast_sides.specs.declared.sorted.Sorted.{Sorted}
use Rattle.coast_sides.specs.RingLand.{IsLandOf}
use Rattle.coast_sides.specs.CutSorting.{IsSortedWith}
use Rattle.job_coastline.specs.Coast.{Coast}
use Rattle.job_coastline.specs.Report.{antarctica_line, coast_lines, conflict_line, cut_line, gap_line, left_out_line, repeated_line, wrong_way_line}

-- The coastline ways among these objects: those that take part, and what keeps others from it.
pub record IsInputOf (objects : List Object) (input : CoastInput) : Type 0 where
  pub taking_part : map way_path_of input.ways ≡ flat_map (way_paths_in objects) (coast_ways objects)
  pub asides : input.aside ≡ flat_map (asides_of objects) (coast_ways objects)
  pub apart : IsDistinct int_eq (map (λ (w : CoastWay). w.id) input.ways)

-- Chains are closed below this distance and joined to rings; lines of the chains that are closed were added.
pub record JoinsChains (chains : List Chain) (limit : ℕ) (joined : Joined) (before after : List CoastLine) : Type 0 where
  pub closings : Closings
  pub are_closings : AreClosings chains limit closings
  pub are_joined : AreJoined chains closings joined
  pub told : after ≡ before ++ (filter_map (antarctica_line chains) closings.antarctica ++ filter_map (gap_line chains) closings.gaps)

-- Land of the kept rings has these edges; lines of all that is amiss with rings were added.
pub record MakesLand (sorted : Sorted) (edges : List Edge) (before after : List CoastLine) : Type 0 where
  pub land : Land
  pub is_land : IsLandOf sorted.kept land
  pub has : edges ≡ land.edges
  pub told : after ≡ before ++ (map cut_line sorted.cuts ++ (map left_out_line sorted.left_out ++ (map conflict_line sorted.pairs
      ++ (map repeated_line land.repeats ++ map wrong_way_line land.wrong_way))))

-- It comes of these coastline ways, with gaps closed below a distance, and crossings cut or not.
pub record IsCoastOf (settings : CoastlineSettings) (input : CoastInput) (coast : Coast) : Type 0 where
  pub asides : coast.asides ≡ input.aside
  pub chains : AreChains input.ways coast.chains
  pub closings : AreClosings coast.chains settings.close_distance coast.closings
  pub joined : AreJoined coast.chains coast.closings coast.joined
  pub sorted : IsSortedWith settings.cut_crossings coast.joined.rings coast.sorted
  pub land : IsLandOf coast.sorted.kept coast.land

-- What comes of these coastline ways has land with these edges; its lines were added.
pub record MakesCoast (settings : CoastlineSettings) (input : CoastInput) (edges : List Edge) (before after : List CoastLine) : Type 0 where
  pub coast : Coast
  pub is_coast : IsCoastOf settings input coast
  pub has : edges ≡ coast.land.edges
  pub told : after ≡ before ++ coast_lines coast
