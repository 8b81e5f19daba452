use Rattle.lists.proofs.PickedItems.{count-picked, picked, rising-picked}
use Rattle.lists.proofs.laws.counted_lists_exist.Goals as goal

pub returns : goal.returns
returns g c = λ q xs. (picked g.T.Ord.cmp q xs, rising-picked g.met.T.Ord.total q xs, count-picked g.met.T.Ord.total q xs)
