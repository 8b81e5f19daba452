use Rattle.std.specs.Io.KnownBytes.{Keeps}
use Rattle.osm_host.proofs.edge.put.Given as goal

abbrev pub invariant-loop-try : goal.invariant-loop-try
invariant-loop-try g l = Keeps (g.W.Write.contents l.fn.sink) (g.W.Write.contents l.sink)
