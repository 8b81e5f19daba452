use Rattle.std.proofs.Common.{map, take, Ok}
use Rattle.osm_host.specs.declared.host.Failed.{Failed}
use Rattle.osm_job.specs.Sent.{lines_text, to_output}
use Rattle.osm_job.specs.Writes.{Wrote}
use Rattle.osm_job.proofs.writing.write_pieces.Given as goal

abbrev pub invariant-loop-piece : goal.invariant-loop-piece
invariant-loop-piece g l = Wrote {T = Unit {0}} {E = Failed} (map to_output (lines_text (take l.piece-index l.pieces))) (g.H.Host.seen l.fn.host) (g.H.Host.seen l.host) (Ok tt)
