-- The coast input of the coast part: each coast way has the same references, and each of these the same location.
use Rattle.std.proofs.Common.{◌≡◌, ◌∙◌, refl, sym, ap, subst, Bool, true, false, Option, Some, ℤ, List, [], ◌∷◌, ◌++◌, filter, map}
use Rattle.std.specs.Prelude.{is_none, option_and_then}
use Rattle.std.specs.List.{filter_map, flat_map, list_any}
use Rattle.std.specs.Option.{option_map_or, option_or}
use Rattle.std.specs.Ordering.{int_eq}
use Rattle.std.proofs.lemmas.Bool.{true≢false}
use Rattle.osm_lattice.specs.declared.loc.Loc.{Loc}
use Rattle.osm_elements.specs.declared.object.Object.{Object}
use Rattle.osm_elements.specs.declared.object.Object.TheVariants as object
use Rattle.osm_elements.specs.declared.object.ObjectKind.TheVariants.{Node}
use Rattle.osm_elements.specs.declared.object.Ref.{Ref}
use Rattle.osm_objects.specs.CoastWays.{coast_ways, is_coast_way}
use Rattle.osm_objects.specs.Object.{id_of, is_at, ref_of}
use Rattle.osm_objects.specs.Objects.{AreApart, location_of, object_at, place_in, place_of, way_in}
use Rattle.coast_join.specs.Input.{asides_by, asides_of, line_along, lines_by, missing_node_ids, refs_of, way_paths_in}
use Rattle.coast_rings.specs.Round.{once}
use Rattle.lists.specs.Member.{In}
use Rattle.lists.specs.Once.{each_once}
use Rattle.lists.proofs.ListsKit.{from-map, in-filter, in-map, in-passes, in-right, int_eq-true}
use Rattle.coast_filter.specs.CoastPart.{coast_nodes, coast_part, is_named, nodes_named, refs_in}
use Rattle.coast_filter.specs.Laws.{CoastInputStays}
use Rattle.coast_filter.proofs.Apart.{found_itself, pairs_differ}
use Rattle.coast_filter.proofs.Kept.{any-in, filter-alike, filter_map-alike, flat_map-alike, found_among, in-flat_map}
use Rattle.coast_filter.proofs.Part.{nodes, part_apart, ways, ways_stay}

-- ---- nodes

named_there : (os : List Object) (id : ℤ) → list_any (int_eq id) (coast_nodes os) ≡ true → (o : Object) → is_at (record { kind = Node; id = id }) o ≡ true → is_named os o ≡ true
named_there os id named (object.Node id_2 live tags place) at = subst (λ (z : ℤ). list_any (int_eq z) (coast_nodes os) ≡ true) (int_eq-true id id_2 at) named
named_there os id named (object.Way id_2 live tags refs) at = absurd (true≢false (sym at))
named_there os id named (object.Relation id_2 live tags members) at = absurd (true≢false (sym at))

no_node : (id : ℤ) (o : Object) → is_coast_way o ≡ true → is_at (record { kind = Node; id = id }) o ≡ false
unfolding is_coast_way
no_node id (object.Node id_2 live tags place) coast = absurd (true≢false (sym coast))
no_node id (object.Way id_2 live tags refs) coast = refl
no_node id (object.Relation id_2 live tags members) coast = absurd (true≢false (sym coast))

same_place : (os : List Object) (r : Ref) → list_any (int_eq r.node) (coast_nodes os) ≡ true → place_of (coast_part os) r ≡ place_of os r
same_place os r named =
    ap (λ (o : Option Object). option_or r.at (option_and_then place_in o))
    (found_among (is_at (record { kind = Node; id = r.node })) (is_named os) is_coast_way (named_there os r.node named) (no_node r.node) os)

-- ---- ways

-- the references of a coast way that is found in its place
refs_found : (os : List Object) (w : Object) → is_coast_way w ≡ true → object_at os (ref_of w) ≡ Some w → refs_of os (id_of w) ≡ refs_in w
unfolding is_coast_way
refs_found os (object.Node id live tags place) coast found = absurd (true≢false (sym coast))
refs_found os (object.Way id live tags refs) coast found = ap (λ (o : Option Object). option_map_or (λ w. w.refs) (option_and_then way_in o) []) found
refs_found os (object.Relation id live tags members) coast found = absurd (true≢false (sym coast))

module _ (os : List Object) (apart : AreApart os) (w : Object) (i : In w (ways os)) where
  coast : is_coast_way w ≡ true
  coast = in-passes is_coast_way os w i

  refs_there : refs_of os (id_of w) ≡ refs_in w
  refs_there = refs_found os w coast (found_itself os w (pairs_differ os apart) (in-filter is_coast_way os w i))

  refs_here : refs_of (coast_part os) (id_of w) ≡ refs_in w
  refs_here = refs_found (coast_part os) w coast (found_itself (coast_part os) w (pairs_differ (coast_part os) (part_apart os apart)) (in-right (nodes os) (ways os) w i))

  places_alike : (r : Ref) → In r (refs_in w) → place_of (coast_part os) r ≡ place_of os r
  places_alike r j =
      same_place os r (any-in r.node (coast_nodes os) (in-flat_map (λ o. nodes_named (refs_in o)) (ways os) w r.node i (in-map (λ (s : Ref). s.node) (refs_in w) r j)))

  missing_alike : missing_node_ids (coast_part os) (refs_in w) ≡ missing_node_ids os (refs_in w)
  missing_alike =
      ap (λ (rs : List Ref). each_once int_eq (map (λ r. r.node) rs))
      (filter-alike (λ r. is_none (place_of (coast_part os) r)) (λ r. is_none (place_of os r)) (refs_in w) (λ r j. ap is_none (places_alike r j)))

  along_alike : line_along (coast_part os) (refs_in w) ≡ line_along os (refs_in w)
  along_alike = ap once (filter_map-alike (place_of (coast_part os)) (place_of os) (refs_in w) places_alike)

  lines_alike : way_paths_in (coast_part os) (id_of w) ≡ way_paths_in os (id_of w)
  lines_alike = rw (refs_here, refs_there, missing_alike, along_alike) refl

  asides_alike : asides_of (coast_part os) (id_of w) ≡ asides_of os (id_of w)
  asides_alike = rw (refs_here, refs_there, missing_alike, along_alike) refl

pub input_stays : CoastInputStays
input_stays os apart = record {
  ways = same;
  taking_part =
      ap (flat_map (way_paths_in (coast_part os))) same
      ∙ flat_map-alike (way_paths_in (coast_part os)) (way_paths_in os) (coast_ways os) (from-map (λ (id : ℤ). way_paths_in (coast_part os) id ≡ way_paths_in os id) id_of (ways os) (λ w i. lines_alike os apart w i));
  asides =
      ap (flat_map (asides_of (coast_part os))) same
      ∙ flat_map-alike (asides_of (coast_part os)) (asides_of os) (coast_ways os) (from-map (λ (id : ℤ). asides_of (coast_part os) id ≡ asides_of os id) id_of (ways os) (λ w i. asides_alike os apart w i));
}
  where
    same : coast_ways (coast_part os) ≡ coast_ways os
    same = ap (map id_of) (ways_stay os)
