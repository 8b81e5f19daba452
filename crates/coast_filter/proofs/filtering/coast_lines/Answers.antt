use Rattle.std.proofs.Common.{◌≡◌, ◌∙◌, ◌++◌, ap, ap₂, subst, rules, List, ℕ, ℤ, Some}
use Rattle.std.specs.List.{flat_map}
use Rattle.std.proofs.lemmas.List.Elements.{recursion_from_All}
use Rattle.osm_objects.specs.CoastWays.{coast_ways}
use Rattle.osm_objects.specs.Nodes.{node_ids}
use Rattle.osm_objects.specs.Object.{ref_of}
use Rattle.osm_objects.specs.Objects.{object_at}
use Rattle.coast_filter.specs.ByIds.{HaveSame, among, node_text, way_line_by_id, way_nodes}
use Rattle.coast_filter.proofs.Lookups.{whole}
use Rattle.coast_filter.proofs.filtering.coast_lines.Goals as goal

pub returns : goal.returns
returns c =
    let objects = c.args.store.now in
    let names = c.in_ok-names.names.items in
    let found = recursion_from_All (λ o. object_at objects (ref_of o) ≡ Some o) objects c.one_of_each.ensures.found in
    let ways : c.deref.result.now ≡ coast_ways objects = search rules in
    let lent : c.deref-2.result.now ≡ names = c.deref-2.ensures.value in
    let nodes : c.deref-3.result.now ≡ node_ids objects = search rules in
    let ways_again : c.deref-4.result.now ≡ coast_ways objects = search rules in
    let named : HaveSame names (flat_map (way_nodes objects) (coast_ways objects)) = subst (λ (ids : List ℤ). HaveSame names (flat_map (way_nodes objects) ids)) ways c.in_ok-names.ensures.same in
    record {
      text = c.in_ok-put_ways.ensures
          ∙ ap₂ (λ (xs ys : List ℕ). xs ++ ys) (c.in_ok-put_named.ensures ∙ ap₂ (λ (xs ys : List ℕ). xs ++ ys) c.new-text.ensures.items (ap₂ (λ (ns ids : List ℤ). flat_map (node_text objects) (among ns ids)) lent nodes))
          (ap (flat_map (way_line_by_id objects)) ways_again)
          ∙ whole objects found names named;
    }
