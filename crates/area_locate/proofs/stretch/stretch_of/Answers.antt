-- The same entries, in order.
use Rattle.std.proofs.Common.{◌≡◌, rules}
use Rattle.std.proofs.lemmas.List.Sorted.{answers_always}
use Rattle.area_locate.specs.declared.stretch.Entry.{Entry}
use Rattle.area_locate.proofs.EntryLists.{entries_moved, x_rises}
use Rattle.area_locate.proofs.stretch.stretch_of.Goals as goal

pub returns : goal.returns
returns c points are =
    let by_x = c.sort_by_key.new.self.items in record {
      whole = entries_moved points c.args.first c.args.entries.items by_x c.args.end c.in_ok-sort_by_key.ensures.permutation are;
      rising = x_rises by_x (c.in_ok-sort_by_key.ensures.sorted (λ (e : Entry). e.x) (answers_always _ (λ a r. r ≡ a.0.now.x) _ (λ f a r q k. search rules)));
    }
