-- The ways that take part are there.
use Rattle.std.proofs.Common.{◌≡◌, ◌∙◌, Bool, true, false, if◌then◌else◌, nat_le, ℤ, List, [], ◌∷◌, ◌++◌, length, map, refl, ap}
use Rattle.std.specs.List.{filter_map, flat_map}
use Rattle.std.proofs.lemmas.Bool.{leb-true}
use Rattle.std.proofs.lemmas.List.{map-append}
use Rattle.osm_elements.specs.declared.object.Object.{Object}
use Rattle.osm_lattice.specs.declared.loc.Loc.{Loc}
use Rattle.osm_lattice.specs.OrderLaws.{LocationOrderTellsApart}
use Rattle.osm_objects.specs.CoastWays.{coast_ways}
use Rattle.osm_objects.specs.Objects.{place_of}
use Rattle.coast_join.specs.declared.way.CoastWay.{CoastWay}
use Rattle.coast_join.specs.Chains.{WayPath, way_path_of}
use Rattle.coast_join.specs.Input.{is_empty, line_along, missing_node_ids, refs_of, way_paths_in}
use Rattle.coast_join.specs.InputLaws.{CoastWaysExist}
use Rattle.coast_join.proofs.Inputs.{ways_apart}
use Rattle.coast_rings.proofs.RingsKit.{once_differs}

module _ (exact : LocationOrderTellsApart) (objects : List Object) where
  abbrev Ways : List WayPath → Type 0
  Ways lines = (ways : List CoastWay) × (map way_path_of ways ≡ lines)

  ways_by : (way : ℤ) → Ways (way_paths_in objects way)
  ways_by way = by (is_empty (missing_node_ids objects (refs_of objects way))) (nat_le 2 (length along)) refl
    where
      along : List Loc
      along = line_along objects (refs_of objects way)

      by : (a b : Bool) → nat_le 2 (length along) ≡ b → Ways (if a then (if b then record { id = way; path = along } ∷ [] else []) else [])
      by false b e = ([], refl)
      by true false e = ([], refl)
      by true true e = (
        record { id = way; path = along; line = record { long = leb-true 2 (length along) e; differ = once_differs exact (filter_map (place_of objects) (refs_of objects way)) } } ∷ [],
        refl,
      )

  all_ways : (ids : List ℤ) → Ways (flat_map (way_paths_in objects) ids)
  all_ways [] = ([], refl)
  all_ways (id ∷ ids) =
      let one = ways_by id in let more = all_ways ids in
      (one.0 ++ more.0, map-append way_path_of one.0 more.0 ∙ ap (λ l. l ++ map way_path_of more.0) one.1 ∙ ap (λ l. way_paths_in objects id ++ l) more.1)

pub ways_there : LocationOrderTellsApart → CoastWaysExist
ways_there exact objects apart =
    let ways = all_ways exact objects (coast_ways objects) in
    (ways.0, ways.1, ways_apart objects ways.0 (coast_ways objects) ways.1 apart)
