use Rattle.std.proofs.Common.{subst, sym}
use Rattle.coast_split.specs.Envelope.{IsSmall}
use Rattle.coast_split.proofs.WholeEnvelopes.{all-joined, edge-step, small-envelope}
use Rattle.coast_split.proofs.envelope.envelope_of.Goals as goal

pub loop-e-preserved : goal.loop-e-preserved
loop-e-preserved c =
    edge-step c.envelope_at-envelope.result c.args.edges.now c.loop-e.e-index c.e-item.result c.e-item.is c.loop-e-test.true
    c.loop-e.envelope c.envelope_at.result c.envelope_at-in-loop-e.result c.joined.result c.joined-envelope.result
    c.loop-e.invariant c.envelope_at.ensures c.joined.ensures c.envelope_at-in-loop-e.ensures c.joined-envelope.ensures

pub returns-clause-value : goal.returns-clause-value
returns-clause-value c =
    all-joined c.args.edges.now c.in-Some.first.now c.loop-e.e-index c.loop-e.envelope c.envelope_at-envelope.result c.in-Some.ensures.item.3.0 c.in-Some.ensures.item.1 c.loop-e-test.false
    c.envelope_at-envelope.ensures c.loop-e.invariant

pub returns-clause-small : goal.returns-clause-small
returns-clause-small c = subst IsSmall (sym (returns-clause-value c)) (small-envelope c.args.edges.now)
