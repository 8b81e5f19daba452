-- Nothing is left of a batch beyond the line, and all of one that is kept.
use Rattle.std.proofs.lemmas.Result.{on_ok_weaker}
use Rattle.coast_split.specs.Batches.{batch_edges}
use Rattle.coast_split.proofs.Batched.{kept-added, none-added}
use Rattle.coast_split.proofs.halves.BatchedPortions.add.Goals as goal

pub returns-in-Beyond : goal.returns-in-Beyond
returns-in-Beyond c =
    none-added c.args.whole.now c.args.cut c.args.side (batch_edges c.args.whole.now c.args.batch.now) c.args.self.now.batches c.args.self.now.ends.items
    c.requires.batches (c.in-Beyond.ensures c.args.whole.now c.requires.batch)

pub returns-in_ok-copy-in-Kept : goal.returns-in_ok-copy-in-Kept
returns-in_ok-copy-in-Kept c =
    on_ok_weaker c.push.result (λ f. kept-added c.args.whole.now c.args.cut c.args.side c.args.batch.now c.in_ok-copy-in-Kept.copy c.args.self.now.batches c.push.new.self c.args.self.now.ends.items
    c.requires.batches c.requires.batch c.in_ok-copy-in-Kept.ensures (c.in-Kept.ensures c.args.whole.now c.requires.batch) (f c.args.whole.now)) c.push.ensures
