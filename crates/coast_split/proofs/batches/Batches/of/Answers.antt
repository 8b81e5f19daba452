-- One batch more, up to its end.
use Rattle.std.proofs.Common.{ap, arith, take, ◌++◌, ◌∙◌}
use Rattle.coast_split.specs.Batches.{batch_edges}
use Rattle.coast_split.proofs.Batched.{parts-taken}
use Rattle.coast_split.proofs.batches.Batches.of.Goals as goal

pub loop-from-init : goal.loop-from-init
loop-from-init c = let n = c.new-list.ensures c.args.whole.now in (n.0, n.1, omega arith)

pub loop-from-preserved : goal.loop-from-preserved
loop-from-preserved c =
    let whole = c.args.whole.now in let from = c.loop-from.from in let end = c.batch_end-end.result in let i = c.loop-from.invariant in
    let a = c.in_ok-push.ensures whole i.0 c.lent.ensures.batch in (
      a.batches,
      a.edges ∙ ap (λ l. l ++ batch_edges whole c.lent.result) i.1 ∙ ap (λ l. take from whole ++ l) c.lent.ensures.edges ∙ parts-taken whole from end (omega (arith, c.batch_end-end.ensures.behind)),
      c.batch_end-end.ensures.inside,
    )
