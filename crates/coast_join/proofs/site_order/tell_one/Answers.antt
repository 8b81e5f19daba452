-- One more node is right.
use Rattle.std.proofs.lemmas.List.Elements.{All-set}
use Rattle.coast_join.specs.SiteTrees.{IsRightNode}
use Rattle.coast_join.proofs.site_order.tell_one.Goals as goal

pub returns-clause-right : goal.returns-clause-right
returns-clause-right c gone = All-set (IsRightNode c.args.sites.now gone) c.args.nodes.now c.middle_of.result c.node_of.result (c.node_of.ensures gone) (c.requires.right gone)
