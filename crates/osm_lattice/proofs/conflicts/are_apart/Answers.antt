use Rattle.osm_lattice.proofs.ClearAtOnce.{east_clear, west_clear}
use Rattle.osm_lattice.proofs.conflicts.are_apart.Goals as goal

pub returns-then-is_left_of : goal.returns-then-is_left_of
returns-then-is_left_of c _ = west_clear c.args.s c.args.t (c.is_left_of.ensures c.if-is_left_of.true)

pub returns : goal.returns
returns c east = east_clear c.args.s c.args.t (c.is_left_of-2.ensures east)
