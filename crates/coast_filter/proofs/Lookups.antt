-- What is looked up by the ids of nodes and ways is what stands in the list of all objects.
use Rattle.std.proofs.Common.{◌≡◌, ◌∙◌, refl, sym, ap, ap₂, Bool, true, false, cond, ℤ, List, [], ◌∷◌, ◌++◌, Option, Some, map, filter, option_and_then, true≢false}
use Rattle.std.proofs.Math.Path.{fun_ext}
use Rattle.std.specs.List.{AllByRecursion, flat_map, list_any}
use Rattle.std.specs.Option.{option_map_or}
use Rattle.std.specs.Ordering.{int_eq}
use Rattle.std.proofs.lemmas.Grind.{flat_map-append}
use Rattle.osm_elements.specs.declared.object.Object.{Object}
use Rattle.osm_elements.specs.declared.object.Object.TheVariants as object
use Rattle.opl_writer.specs.Written.{ended, node_line, object_line, objects_text, way_line}
use Rattle.osm_objects.specs.CoastWays.{coast_ways, is_coast_way}
use Rattle.osm_objects.specs.Nodes.{node_ids}
use Rattle.osm_objects.specs.Object.{id_of, ref_of}
use Rattle.osm_objects.specs.Objects.{NodeParts, WayParts, node_in, object_at, way_in}
use Rattle.coast_filter.specs.ByIds.{HaveSame, among, node_text, way_line_by_id, way_nodes}
use Rattle.coast_filter.specs.CoastPart.{coast_nodes, coast_part, is_named, nodes_named, refs_in}

-- where the same ids stand among the names, the same are picked
pub among_same : (xs ys ids : List ℤ) → HaveSame xs ys → among xs ids ≡ among ys ids
among_same xs ys ids same = ap (λ (p : ℤ → Bool). filter p ids) (fun_ext same)

module _ (objects : List Object) where
  -- each of these is what its kind and id find
  abbrev pub AllFound : List Object → Type 0
  AllFound list = AllByRecursion (λ o. object_at objects (ref_of o) ≡ Some o) list

  -- ---- ways

  way_found : (o : Object) → is_coast_way o ≡ true → object_at objects (ref_of o) ≡ Some o → way_line_by_id objects (id_of o) ≡ ended (object_line o)
  unfolding is_coast_way
  way_found (object.Node id live tags place) is found = absurd (true≢false (sym is))
  way_found (object.Way id live tags refs) is found = ap (λ (r : Option Object). option_map_or (λ (w : WayParts). ended (way_line id w.tags w.refs)) (option_and_then way_in r) []) found
  way_found (object.Relation id live tags members) is found = absurd (true≢false (sym is))

  names_found : (o : Object) → is_coast_way o ≡ true → object_at objects (ref_of o) ≡ Some o → way_nodes objects (id_of o) ≡ nodes_named (refs_in o)
  unfolding is_coast_way
  names_found (object.Node id live tags place) is found = absurd (true≢false (sym is))
  names_found (object.Way id live tags refs) is found = ap (λ (r : Option Object). option_map_or (λ (w : WayParts). nodes_named w.refs) (option_and_then way_in r) []) found
  names_found (object.Relation id live tags members) is found = absurd (true≢false (sym is))

  -- where each coast way has by its id what it has as an object, so have all
  ways_found : {A : Type 0} (f : ℤ → List A) (g : Object → List A) → ((o : Object) → is_coast_way o ≡ true → object_at objects (ref_of o) ≡ Some o → f (id_of o) ≡ g o) →
      (list : List Object) → AllFound list → flat_map f (coast_ways list) ≡ flat_map g (filter is_coast_way list)
  ways_found f g each [] all = refl
  ways_found {A} f g each (o ∷ list) all = by (is_coast_way o) refl (ways_found f g each list all.1)
    where
      by : (b : Bool) → is_coast_way o ≡ b → flat_map f (coast_ways list) ≡ flat_map g (filter is_coast_way list)
          → flat_map f (map id_of (cond b (o ∷ filter is_coast_way list) (filter is_coast_way list))) ≡ flat_map g (cond b (o ∷ filter is_coast_way list) (filter is_coast_way list))
      by true is rest = ap₂ (λ (xs ys : List A). xs ++ ys) (each o is all.0) rest
      by false is rest = rest

  pub way_lines : AllFound objects → flat_map (way_line_by_id objects) (coast_ways objects) ≡ objects_text (filter is_coast_way objects)
  way_lines all = ways_found (way_line_by_id objects) (λ (o : Object). ended (object_line o)) way_found objects all

  pub way_names : AllFound objects → flat_map (way_nodes objects) (coast_ways objects) ≡ coast_nodes objects
  way_names all = ways_found (way_nodes objects) (λ (o : Object). nodes_named (refs_in o)) names_found objects all

  -- ---- nodes

  pub node_lines : (list : List Object) → AllFound list → flat_map (node_text objects) (among (coast_nodes objects) (node_ids list)) ≡ objects_text (filter (is_named objects) list)
  node_lines [] all = refl
  node_lines (object.Node id live tags place ∷ list) all = by (list_any (int_eq id) (coast_nodes objects)) (node_lines list all.1)
    where
      same : node_text objects id ≡ ended (node_line id tags place)
      same = ap (λ (r : Option Object). option_map_or (λ (n : NodeParts). ended (node_line id n.tags n.place)) (option_and_then node_in r) []) all.0

      by : (b : Bool) → flat_map (node_text objects) (among (coast_nodes objects) (node_ids list)) ≡ objects_text (filter (is_named objects) list)
          → flat_map (node_text objects) (cond b (id ∷ among (coast_nodes objects) (node_ids list)) (among (coast_nodes objects) (node_ids list)))
          ≡ objects_text (cond b (object.Node id live tags place ∷ filter (is_named objects) list) (filter (is_named objects) list))
      by true rest = ap₂ (λ xs ys. xs ++ ys) same rest
      by false rest = rest
  node_lines (object.Way id live tags refs ∷ list) all = node_lines list all.1
  node_lines (object.Relation id live tags members ∷ list) all = node_lines list all.1

  -- ---- the whole text

  pub whole : AllFound objects → (names : List ℤ) → HaveSame names (flat_map (way_nodes objects) (coast_ways objects)) →
      flat_map (node_text objects) (among names (node_ids objects)) ++ flat_map (way_line_by_id objects) (coast_ways objects) ≡ objects_text (coast_part objects)
  whole all names same =
      let named = among_same names (coast_nodes objects) (node_ids objects) (λ q. same q ∙ ap (list_any (int_eq q)) (way_names all)) in
      ap₂ (λ xs ys. xs ++ ys) (ap (flat_map (node_text objects)) named ∙ node_lines objects all) (way_lines all)
      ∙ sym (flat_map-append (λ (o : Object). ended (object_line o)) (filter (is_named objects) objects) (filter is_coast_way objects))
