use Rattle.std.proofs.Common.{map, take, Ok}
use Rattle.osm_host.specs.declared.host.Failed.{Failed}
use Rattle.osm_job.specs.Sent.{lines_text, to_report}
use Rattle.osm_job.specs.Writes.{Wrote}
use Rattle.osm_job.proofs.writing.write_lines.Given as goal

abbrev pub invariant-loop-line : goal.invariant-loop-line
invariant-loop-line g l = Wrote {T = Unit {0}} {E = Failed} (map to_report (lines_text (take l.line-index l.lines))) (g.H.Host.seen l.fn.host) (g.H.Host.seen l.host) (Ok tt)
