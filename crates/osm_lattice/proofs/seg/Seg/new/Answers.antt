use Rattle.osm_lattice.proofs.SegmentsBetween.{forth, back}
use Rattle.osm_lattice.proofs.seg.Seg.new.Goals as goal

pub returns-then-lt-clause-between : goal.returns-then-lt-clause-between
returns-then-lt-clause-between c = forth c.args.p c.args.q _

pub returns-then-lt-2-clause-between : goal.returns-then-lt-2-clause-between
returns-then-lt-2-clause-between c = back c.args.p c.args.q _
