use Rattle.lists.proofs.RisingLists.{same_rising}
use Rattle.lists.proofs.laws.counts_determine.Goals as goal

pub returns : goal.returns
returns g c = same_rising g.met.T.Ord.total
