use Rattle.std.proofs.lemmas.Result.{IfOk-weaker}
use Rattle.lists.proofs.Picks.{all_picked, rising_items}
use Rattle.lists.proofs.tally.distinct_items.Goals as goal

pub returns-clause-once : goal.returns-clause-once
returns-clause-once g c = IfOk-weaker c.items_of.result _ _ (λ v e. all_picked g.met.T.Ord.total c.args.items.now e c.deref.ensures.value c.in_ok-tallies.ensures.each) c.items_of.ensures

pub returns-clause-rising : goal.returns-clause-rising
returns-clause-rising g c = IfOk-weaker c.items_of.result _ _ (λ v e. rising_items g.met.T.Ord.total e c.deref.ensures.value c.in_ok-tallies.ensures.rising) c.items_of.ensures
