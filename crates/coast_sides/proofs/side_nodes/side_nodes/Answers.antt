-- The nodes of the side, each once.
use Rattle.std.proofs.Common.{List, filter, min, ap, ◌∙◌}
use Rattle.osm_lattice.specs.declared.loc.Loc.{Loc}
use Rattle.osm_lattice.specs.Loc.{loc_cmp}
use Rattle.lists.specs.Rising.{count_of}
use Rattle.coast_sides.proofs.ListSteps.{IfOk-both}
use Rattle.osm_segments.specs.Counts.{ends_of}
use Rattle.coast_sides.specs.WorldSides.{greater_corner, lesser_corner, on_side}
use Rattle.coast_sides.proofs.SideNodes.{gathered, greatest_on, is_side, least_on}
use Rattle.coast_sides.proofs.side_nodes.side_nodes.Goals as goal

pub returns : goal.returns
returns c =
    let side = c.args.side in
    let land = c.args.land.now in
    let whole = gathered (lesser_corner side) (greater_corner side) (filter (on_side side) (ends_of land)) c.new-nodes.result.items c.push.new.self.items c.push-2.new.self.items c.add_ends.new.nodes.items c.deref.result.now c.lesser_corner.result c.greater_corner.result
    c.new-nodes.ensures.items c.in_ok-push.ensures.items c.in_ok-push-2.ensures.items c.in_ok-add_ends.ensures c.deref.ensures.value c.lesser_corner.ensures c.greater_corner.ensures in
    IfOk-both c.distinct_items.result _ _ _ (λ v once rising. is_side c.orders_are_exact.ensures.locations (on_side side) (lesser_corner side) (greater_corner side) (least_on side) (greatest_on side) land v.items rising
    (λ p. once p ∙ ap (λ (ps : List Loc). min 1 (count_of loc_cmp p ps)) whole)) c.distinct_items.ensures.once c.distinct_items.ensures.rising
