use Rattle.std.proofs.Common.{nat_le, ◌∙◌, ap, map}
use Rattle.std.proofs.lemmas.Result.{IfOk-weaker}
use Rattle.lists.specs.Rising.{count_of}
use Rattle.lists.proofs.Picks.{picked, rising_picked, times_picked, twice_once}
use Rattle.lists.proofs.tally.repeated_items.Goals as goal

pub returns-clause-repeated : goal.returns-clause-repeated
returns-clause-repeated g c = IfOk-weaker c.repeated_of.result _ _ (λ v e x. picked g.met.T.Ord.total c.args.items.now (λ n. nat_le 2 n) (ap (map (λ t. t.item)) e) c.deref.ensures.value c.in_ok-tallies.ensures.times c.in_ok-tallies.ensures.each x ∙ twice_once (count_of g.T.Ord.cmp x c.args.items.now)) c.repeated_of.ensures

pub returns-clause-times : goal.returns-clause-times
returns-clause-times g c = IfOk-weaker c.repeated_of.result _ _ (λ v e. times_picked g.met.T.Ord.total c.args.items.now (λ t. nat_le 2 t.times) e c.deref.ensures.value c.in_ok-tallies.ensures.times) c.repeated_of.ensures

pub returns-clause-rising : goal.returns-clause-rising
returns-clause-rising g c = IfOk-weaker c.repeated_of.result _ _ (λ v e. rising_picked g.met.T.Ord.total (λ t. nat_le 2 t.times) (ap (map (λ t. t.item)) e) c.deref.ensures.value c.in_ok-tallies.ensures.rising) c.repeated_of.ensures
