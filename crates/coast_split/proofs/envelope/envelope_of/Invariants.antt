use Rattle.std.proofs.Common.{take, ◌≡◌}
use Rattle.coast_split.specs.Envelope.{envelope_from}
use Rattle.coast_split.proofs.envelope.envelope_of.Given as goal

abbrev pub invariant-loop-e : goal.invariant-loop-e
invariant-loop-e l = l.envelope ≡ envelope_from l.initial.envelope (take l.e-index l.edges)
