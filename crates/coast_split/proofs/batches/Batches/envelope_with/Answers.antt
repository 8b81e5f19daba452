-- Both have edges, so the least envelope that holds theirs is that of all.
use Rattle.std.proofs.Common.{ap, arith, length, ◌<◌, ◌∙◌}
use Rattle.coast_split.specs.Batches.{batch_edges, batched_edges}
use Rattle.coast_split.specs.Envelope.{envelope_of, joined_envelope}
use Rattle.coast_split.proofs.JoinedEnvelopes.{joined-is}
use Rattle.coast_split.proofs.batches.Batches.envelope_with.Goals as goal

pub returns-else-self-eq0 : goal.returns-else-self-eq0
returns-else-self-eq0 c = λ whole h k.
    let b = c.args.batch.now in let es = batched_edges whole c.args.self.now in let n = h.count in let some = c.if-self-eq0.false in
    let any : 0 < length es = omega (arith, some) in
    c.joined.ensures ∙ ap (λ v. joined_envelope v b.envelope) h.envelope ∙ ap (joined_envelope (envelope_of es)) k.envelope ∙ joined-is es (batch_edges whole b) any k.some
