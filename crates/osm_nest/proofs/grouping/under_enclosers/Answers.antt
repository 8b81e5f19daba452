-- The rings with their places are those of the list.
use Rattle.std.proofs.Common.{List, ◌≡◌}
use Rattle.std.proofs.lemmas.Result.{IfOk-weaker}
use Rattle.osm_geom.specs.declared.edge.Edge.{Edge}
use Rattle.osm_nest.specs.Grouped.{IsGrouping, MayBeGrouped, placed_from, polygons_of}
use Rattle.osm_nest.proofs.GroupedRings.{placed_in, within_homes}
use Rattle.osm_nest.proofs.Listing.{turned-listed}
use Rattle.osm_nest.proofs.Turns.{turns}
use Rattle.osm_nest.proofs.grouping.under_enclosers.Goals as goal

pub polygons_of-requires-clause-placed : goal.polygons_of-requires-clause-placed
polygons_of-requires-clause-placed c =
    let rs = c.requires.0 in let m = c.requires.1 in let xs = c.args.rings.items in let bs = c.in_ok-begun.begun.items in
    placed_in rs m.rings c.args.enclosers.now m.right bs (turns rs m.rings (placed_from 0 xs) bs (turned-listed rs xs m.turned) c.in_ok-begun.ensures.moved c.in_ok-begun.ensures.order)

pub polygons_of-requires-clause-enclosers : goal.polygons_of-requires-clause-enclosers
polygons_of-requires-clause-enclosers c = let m = c.requires.1 in within_homes c.requires.0 m.rings c.args.enclosers.now m.right

pub returns : goal.returns
returns c =
    let hs = c.args.enclosers.now in let xs = c.args.rings.items in let bs = c.in_ok-begun.begun.items in
    IfOk-weaker c.polygons_of.result (λ v. v ≡ polygons_of hs bs) (λ v. (rs : List (List Edge)) → MayBeGrouped rs xs hs → IsGrouping rs v)
    (λ v e rs m. record {
      enclosers = hs;
      begun = bs;
      right = m.right;
      in_turn = turns rs m.rings (placed_from 0 xs) bs (turned-listed rs xs m.turned) c.in_ok-begun.ensures.moved c.in_ok-begun.ensures.order;
      is = e;
    }) c.polygons_of.ensures
