-- What holds of each site of a part of the list holds of those that stand in its stretch.
use Rattle.std.proofs.lemmas.Bool.{false≢true}
use Rattle.coast_join.specs.SiteTrees.{IsInBounds}
use Rattle.coast_join.proofs.SiteStretches.{slice_has}
use Rattle.coast_join.proofs.site_order.node_of.Goals as goal

pub returns : goal.returns
returns c gone = record {
  bounds = slice_has (IsInBounds c.bounds_of.result) c.args.sites.now c.args.stretch c.requires.order c.requires.inside c.bounds_of.ensures;
  spent = λ e. absurd (false≢true e);
}
