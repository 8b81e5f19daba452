use Rattle.coast_split.proofs.batches.Batches.edges.Goals as goal

pub loop-batch-init : goal.loop-batch-init
loop-batch-init c = c.in_ok-edges.ensures.items
