-- From one half and then from the other.
use Rattle.coast_join.proofs.SiteStretches.{nearest_parted}
use Rattle.coast_join.proofs.site_tree.+nearest_in.Goals as goal

pub returns : goal.returns
returns t c = nearest_parted c.args.tree.now.sites.items c.args.tree.now.gone.items c.args.at c.args.stretch c.nearer_half_first.result.0 c.nearer_half_first.result.1 c.args.best c.nearest_in-best.result c.nearest_in.result
    c.nearer_half_first.ensures c.nearest_in-best.ensures c.nearest_in.ensures
