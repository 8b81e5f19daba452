use Rattle.std.specs.Io.KnownBytes.{Keeps}
use Rattle.osm_host.proofs.edge.take.Given as goal

abbrev pub invariant-loop-try : goal.invariant-loop-try
invariant-loop-try g l = Keeps (g.R.Read.remaining l.fn.source) (g.R.Read.remaining l.source)
