-- The coast part of objects: its coast ways, its nodes, and that it is sound where they are.
use Rattle.std.proofs.Common.{◌≡◌, ◌∙◌, refl, sym, ap, Bool, true, false, List, [], ◌∷◌, ◌++◌, filter, append-nil, All}
use Rattle.std.specs.Prelude.{ℤ}
use Rattle.std.specs.List.{flat_map, list_any}
use Rattle.std.specs.Ordering.{int_eq}
use Rattle.std.proofs.lemmas.Bool.{true≢false}
use Rattle.std.proofs.lemmas.List.Elements.{All-append, All-filter, filter-append, filter_agree}
use Rattle.osm_elements.specs.declared.object.Object.{Object}
use Rattle.osm_elements.specs.declared.object.Object.TheVariants as object
use Rattle.osm_elements.specs.declared.object.ObjectKind.TheVariants.{Way}
use Rattle.opl_writer.specs.Writable.{IsWritable}
use Rattle.osm_objects.specs.CoastWays.{is_coast_way}
use Rattle.osm_objects.specs.Object.{is_at, kind_of, ref_of}
use Rattle.osm_objects.specs.Objects.{AreApart}
use Rattle.lists.proofs.ListsKit.{in-passes, pairs-append, pairs-filter}
use Rattle.coast_filter.specs.CoastPart.{coast_nodes, coast_part, is_named, nodes_named, refs_in}
use Rattle.coast_filter.specs.Laws.{CoastPartIsApart, CoastPartIsWritable, CoastPartStays}
use Rattle.coast_filter.proofs.Apart.{Differ, are_apart, pairs_differ}
use Rattle.coast_filter.proofs.Kept.{all_pass, none_pass}

-- ---- a node is no way

pub named_no_way : (os : List Object) (o : Object) → is_named os o ≡ true → is_coast_way o ≡ false
unfolding is_coast_way
named_no_way os (object.Node id live tags place) named = refl
named_no_way os (object.Way id live tags refs) named = absurd (true≢false (sym named))
named_no_way os (object.Relation id live tags members) named = refl

pub way_not_named : (os : List Object) (o : Object) → is_coast_way o ≡ true → is_named os o ≡ false
unfolding is_coast_way
way_not_named os (object.Node id live tags place) coast = absurd (true≢false (sym coast))
way_not_named os (object.Way id live tags refs) coast = refl
way_not_named os (object.Relation id live tags members) coast = absurd (true≢false (sym coast))

-- a node that is named isn't at the place of a way, nor the other way round
differ_in_kind : (os : List Object) (o u : Object) → is_named os o ≡ true → is_coast_way u ≡ true → Differ o u
unfolding is_coast_way
differ_in_kind os (object.Node id live tags place) (object.Node id_2 live_2 tags_2 place_2) named coast = absurd (true≢false (sym coast))
differ_in_kind os (object.Node id live tags place) (object.Way id_2 live_2 tags_2 refs) named coast = refl
differ_in_kind os (object.Node id live tags place) (object.Relation id_2 live_2 tags_2 members) named coast = absurd (true≢false (sym coast))
differ_in_kind os (object.Way id live tags refs) u named coast = absurd (true≢false (sym named))
differ_in_kind os (object.Relation id live tags members) u named coast = absurd (true≢false (sym named))

-- ---- a part of a part

module _ (os : List Object) where
  abbrev pub nodes : List Object
  nodes = filter (is_named os) os

  abbrev pub ways : List Object
  ways = filter is_coast_way os

  pub ways_stay : filter is_coast_way (coast_part os) ≡ ways
  ways_stay =
      filter-append is_coast_way nodes ways ∙ ap (λ (us : List Object). us ++ filter is_coast_way ways) (none_pass is_coast_way (is_named os) (named_no_way os) os)
      ∙ all_pass is_coast_way os

  names_stay : coast_nodes (coast_part os) ≡ coast_nodes os
  names_stay = ap (flat_map (λ o. nodes_named (refs_in o))) ways_stay

  named_alike : (o : Object) → is_named (coast_part os) o ≡ is_named os o
  named_alike (object.Node id live tags place) = ap (list_any (int_eq id)) names_stay
  named_alike (object.Way id live tags refs) = refl
  named_alike (object.Relation id live tags members) = refl

  nodes_stay : filter (is_named (coast_part os)) (coast_part os) ≡ nodes
  nodes_stay =
      filter_agree (is_named (coast_part os)) (is_named os) named_alike (coast_part os)
      ∙ filter-append (is_named os) nodes ways
      ∙ ap (λ (us : List Object). filter (is_named os) nodes ++ us) (none_pass (is_named os) is_coast_way (way_not_named os) os)
      ∙ append-nil (filter (is_named os) nodes) ∙ all_pass (is_named os) os

pub part_stays : CoastPartStays
part_stays os = rw (nodes_stay os, ways_stay os) refl

-- ---- a part is sound

pub part_apart : CoastPartIsApart
part_apart os apart =
    let pairs = pairs_differ os apart in
    are_apart (coast_part os)
    (pairs-append Differ (nodes os) (ways os) (pairs-filter Differ (is_named os) os pairs) (pairs-filter Differ is_coast_way os pairs)
    (λ o u i j. differ_in_kind os o u (in-passes (is_named os) os o i) (in-passes is_coast_way os u j)))

pub part_writable : CoastPartIsWritable
part_writable os all =
    All-append IsWritable (nodes os) (ways os) (All-filter (is_named os) IsWritable os all) (All-filter is_coast_way IsWritable os all)
