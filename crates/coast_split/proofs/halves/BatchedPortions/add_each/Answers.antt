-- Portions make a batch, unless there are none.
use Rattle.std.proofs.Common.{[], ap, subst, ◌++◌, ◌∙◌, ◌≡◌}
use Rattle.coast_split.specs.Half.{ArePortions}
use Rattle.coast_split.specs.Walk.{ends_on}
use Rattle.coast_split.proofs.Batched.{nothing-added}
use Rattle.coast_split.proofs.halves.BatchedPortions.add_each.Goals as goal

pub returns-in_default : goal.returns-in_default
returns-in_default c = λ whole h.
    let none : c.in_ok-portions.portions ≡ [] = c.in_default.ensures whole in
    record {
      portions = [];
      are_portions = subst (ArePortions c.args.cut c.args.side c.args.edges.now) none c.in_ok-portions.ensures;
      added = nothing-added whole c.args.self.now.batches h;
      ends = c.in_ok-push_ends.ensures ∙ ap (λ es. c.args.self.now.ends.items ++ ends_on c.args.cut es) (c.as_slice.ensures ∙ none);
    }
