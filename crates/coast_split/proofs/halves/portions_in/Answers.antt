-- The portions of one batch more.
use Rattle.std.proofs.Common.{subst, sym, take, ◌∙◌}
use Rattle.std.proofs.lemmas.List.{take_all}
use Rattle.coast_split.proofs.Batched.{HavePortions, more-made, none-made}
use Rattle.coast_split.proofs.Lists.{next-taken}
use Rattle.coast_split.proofs.halves.portions_in.Goals as goal

pub loop-batch-init : goal.loop-batch-init
loop-batch-init c =
    let n = c.new-portions.ensures.batches c.args.whole.now in
    none-made c.args.whole.now c.args.cut c.args.side c.new-portions.result.batches c.new-portions.result.ends.items n.0 n.1 c.new-portions.ensures.ends

pub add-requires-clause-batches : goal.add-requires-clause-batches
add-requires-clause-batches c = c.loop-batch.invariant.batches

pub loop-batch-preserved : goal.loop-batch-preserved
loop-batch-preserved c =
    let whole = c.args.whole.now in let bs = c.deref-batch-items.result.now in let i = c.loop-batch.batch-index in let new = c.add.new.self in
    subst (λ l. HavePortions whole c.args.cut c.args.side l new.batches new.ends.items) (sym (next-taken bs i c.batch-item.result c.batch-item.is c.loop-batch-test.true))
    (more-made whole c.args.cut c.args.side (take i bs) c.batch-item.result c.loop-batch.portions.batches new.batches c.loop-batch.portions.ends.items new.ends.items c.loop-batch.invariant c.in_ok-add.ensures)

all-made : (c : goal.After-loop-batch) → HavePortions c.args.whole.now c.args.cut c.args.side c.args.list.now.batches.items c.loop-batch.portions.batches c.loop-batch.portions.ends.items
all-made c =
    let items = c.deref-batch-items.result.now in
    subst (λ l. HavePortions c.args.whole.now c.args.cut c.args.side l c.loop-batch.portions.batches c.loop-batch.portions.ends.items)
    (take_all c.loop-batch.batch-index items c.loop-batch-test.false ∙ c.deref-batch-items.ensures.value) c.loop-batch.invariant

pub returns-clause-batches : goal.returns-clause-batches
returns-clause-batches c = (all-made c).batches

pub returns-clause-portions : goal.returns-clause-portions
returns-clause-portions c = (all-made c).portions

pub returns-clause-ends : goal.returns-clause-ends
returns-clause-ends c = (all-made c).ends
