-- Both ends of one more edge.
use Rattle.std.proofs.Common.{ap, sym, ◌++◌, ◌∙◌}
use Rattle.std.proofs.lemmas.List.{append-nil, take_all}
use Rattle.coast_split.specs.Walk.{ends_on}
use Rattle.coast_split.proofs.Lists.{ends-step}
use Rattle.coast_split.proofs.halves.push_ends.Goals as goal

pub loop-e-init : goal.loop-e-init
loop-e-init c = sym (append-nil c.args.ends.now.items)

pub loop-e-preserved : goal.loop-e-preserved
loop-e-preserved c =
    ends-step c.args.cut c.args.edges.now c.loop-e.e-index c.e-item.result c.e-item.is c.loop-e-test.true c.args.ends.now.items c.loop-e.ends.items c.push_end.new.ends.items c.push_end-in-loop-e.new.ends.items
    c.loop-e.invariant c.in_ok-push_end.ensures c.in_ok-push_end-2.ensures

pub returns : goal.returns
returns c = c.loop-e.invariant ∙ ap (λ es. c.args.ends.now.items ++ ends_on c.args.cut es) (take_all c.loop-e.e-index c.args.edges.now c.loop-e-test.false)
