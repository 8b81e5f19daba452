-- A law of the ways that take part, as a statement.
use Rattle.std.specs.Prelude.{◌≡◌, List, map}
use Rattle.std.specs.List.{IsDistinct, flat_map}
use Rattle.std.specs.Ordering.{int_eq}
use Rattle.osm_elements.specs.declared.object.Object.{Object}
use Rattle.osm_objects.specs.CoastWays.{coast_ways}
use Rattle.coast_join.specs.declared.way.CoastWay.{CoastWay}
use Rattle.coast_join.specs.Chains.{way_path_of}
use Rattle.coast_join.specs.Input.{way_paths_in}

-- where no two coastline ways have one id, there are the ways that take part, and no two of them have one id
abbrev pub CoastWaysExist : Type 0
CoastWaysExist =
    (objects : List Object) → IsDistinct int_eq (coast_ways objects) →
    (ways : List CoastWay)
    × (map way_path_of ways ≡ flat_map (way_paths_in objects) (coast_ways objects))
    × IsDistinct int_eq (map (λ (w : CoastWay). w.id) ways)
