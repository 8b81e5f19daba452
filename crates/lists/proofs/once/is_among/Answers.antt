-- By what a search by halves answers.
use Rattle.std.proofs.Common.{◌∙◌}
use Rattle.lists.proofs.Searches.{found}
use Rattle.lists.proofs.once.is_among.Goals as goal

pub returns : goal.returns
returns g c = c.is_ok.ensures.value ∙ found g.met.T.Ord.total c.args.sorted.now c.args.item.now c.requires c.binary_search.result c.binary_search.ensures.bound c.binary_search.ensures.position
