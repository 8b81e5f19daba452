use Rattle.std.proofs.Common.{◌≡◌, false}
use Rattle.osm_host.specs.Outside.{OnlyReads}
use Rattle.osm_input.specs.Keeps.{KeepsNames}
use Rattle.osm_input.proofs.TextTaken.{TextTaken}
use Rattle.osm_input.proofs.text.read_whole.Given as goal

abbrev pub invariant-loop-count : goal.invariant-loop-count
invariant-loop-count g l = record {
  taken : TextTaken l.limit (g.H.Host.seen l.fn.host) (g.H.Host.seen l.host) l.text.items l.room;
  no_fault : (g.H.Host.seen l.host).read_faults ≡ (g.H.Host.seen l.fn.host).read_faults;
  goes_on : (g.H.Host.seen l.host).at_end ≡ false;
  keeps : KeepsNames (g.H.Host.seen l.fn.host) (g.H.Host.seen l.host);
  rest : OnlyReads (g.H.Host.seen l.fn.host) (g.H.Host.seen l.host);
}

abbrev pub decreases-loop-count : goal.decreases-loop-count
decreases-loop-count g l = l.room
