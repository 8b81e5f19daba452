-- The segments so far are within.
use Rattle.std.proofs.Common.{take}
use Rattle.area_locate.specs.Envelopes.{Encloses}
use Rattle.area_locate.proofs.envelope.Envelope.of.Given as goal

abbrev pub invariant-loop-side : goal.invariant-loop-side
invariant-loop-side l = Encloses l.envelope (take l.side-index l.sides)
