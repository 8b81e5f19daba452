use Rattle.std.proofs.Common.{ap, ◌∙◌}
use Rattle.std.specs.Ordering.{is_lt}
use Rattle.coast_split.specs.Half.{line_order}
use Rattle.osm_lattice.proofs.LatticeKit.{is_lt-plus}
use Rattle.coast_split.proofs.halves.compare_ends.Goals as goal

pub returns : goal.returns
returns c = ap is_lt c.compare_along.ensures ∙ is_lt-plus (line_order c.args.cut c.args.side c.args.p c.args.q)
