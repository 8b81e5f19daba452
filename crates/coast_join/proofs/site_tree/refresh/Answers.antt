-- A stretch is spent where both halves are.
use Rattle.std.proofs.Common.{get_or, pos, false, true, arith}
use Rattle.std.proofs.lemmas.List.Elements.{All-set}
use Rattle.coast_join.specs.declared.site_tree.SiteNode.{SiteNode}
use Rattle.coast_join.specs.SiteTrees.{IsRightNode}
use Rattle.coast_join.proofs.SiteStretches.{spent_node}
use Rattle.coast_join.proofs.site_tree.refresh.Goals as goal

pub returns-then-is_spent-2-clause-right : goal.returns-then-is_spent-2-clause-right
returns-then-is_spent-2-clause-right c =
    let sites = c.args.sites.now in
    let gone = c.args.gone.now in
    let nodes = c.args.nodes.now in
    let middle = c.middle_of-middle.result in
    let none : SiteNode = record { stretch = record { first = 0; end = 0 }; bounds = record { west = pos 0; east = pos 0; south = pos 0; north = pos 0; least = 0 }; spent = false } in
    let node : SiteNode = get_or nodes middle none in
    All-set (IsRightNode sites gone) nodes middle (record { stretch = node.stretch; bounds = node.bounds; spent = true })
    (spent_node sites gone node c.args.stretch c.halves.result.0 c.halves.result.1 (c.requires.right middle none (omega arith))
    (c.is_of.ensures.first c.if-is_of.true) (c.is_of.ensures.end c.if-is_of.true) c.halves.ensures
    (c.is_spent.ensures c.if-is_spent.true) (c.is_spent-then-is_spent.ensures c.if-is_spent-2.true))
    c.requires.right
