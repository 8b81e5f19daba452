use Rattle.std.proofs.Common.{◌+◌, refl}
use Rattle.lists.proofs.TallySteps.{again_if, new_if, new_first}
use Rattle.lists.proofs.tally.count_in.Goals.{in_default-via-in-Some+else-eq, in_default-via-in_default}
use Rattle.lists.proofs.tally.count_in.Goals as goal

pub returns-in_ok-push-in-Some : goal.returns-in_ok-push-in-Some
returns-in_ok-push-in-Some g c = record {
  counted = λ passed inv upto.
      again_if g.met.T.Ord.total g.met.T.Ord.matches_eq passed _ c.pop.new.self.items _ c.args.item c.in-Some.last (record { item = c.in-Some.last.item; times = c.in-Some.last.times + 1 }) (cc) (cc) refl refl (cc) c.in_ok-push-in-Some.ensures.items inv;
}

pub returns-in_ok-push-in_default : goal.returns-in_ok-push-in_default
returns-in_ok-push-in_default g c = record {
  counted = λ passed inv upto.
      elim c.in_default.branch [
        | in_default-via-in-Some+else-eq w ↦ new_if g.met.T.Ord.total g.met.T.Ord.matches_eq passed _ _ c.args.item w.in-Some.last (record { item = c.args.item; times = 1 }) (cc) (cc) refl refl c.in_ok-push-in_default.ensures.items inv upto
        | in_default-via-in_default w ↦ new_first g.met.T.Ord.total g.met.T.Ord.matches_eq passed _ _ c.args.item (record { item = c.args.item; times = 1 }) (cc) refl refl c.in_ok-push-in_default.ensures.items inv upto
      ];
}
