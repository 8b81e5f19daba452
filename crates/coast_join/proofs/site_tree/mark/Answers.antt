use Rattle.coast_join.proofs.SiteStretches.{all_right_still}
use Rattle.coast_join.proofs.site_tree.mark.Goals as goal

pub refresh_along-requires-clause-right : goal.refresh_along-requires-clause-right
refresh_along-requires-clause-right c = rw (c.deref_mut.ensures.value, c.deref-2.ensures.value, c.deref-3.ensures.value) (all_right_still c.args.tree.now.sites.items c.args.tree.now.gone.items c.args.chain c.args.tree.now.nodes.items c.requires.tree.right)
