use Rattle.std.proofs.Common.{◌≡◌, false}
use Rattle.osm_host.specs.Outside.{OnlyReads}
use Rattle.osm_input.specs.Keeps.{KeepsNames}
use Rattle.osm_input.proofs.Taking.{Taken}
use Rattle.osm_input.proofs.reading.take_pieces.Given as goal

abbrev pub invariant-loop-count : goal.invariant-loop-count
invariant-loop-count g l = record {
  taken : Taken l.limit l.fn.lines.longest (g.H.Host.seen l.fn.host) (g.H.Host.seen l.host) l.lines l.store l.room;
  no_fault : (g.H.Host.seen l.host).read_faults ≡ (g.H.Host.seen l.fn.host).read_faults;
  goes_on : (g.H.Host.seen l.host).at_end ≡ false;
  keeps : KeepsNames (g.H.Host.seen l.fn.host) (g.H.Host.seen l.host);
  rest : OnlyReads (g.H.Host.seen l.fn.host) (g.H.Host.seen l.host);
}

abbrev pub decreases-loop-count : goal.decreases-loop-count
decreases-loop-count g l = l.room
