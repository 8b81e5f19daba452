use Rattle.std.proofs.Common.{arith}
use Rattle.std.specs.Int.{w32}
use Rattle.osm_lattice.proofs.ClearAtOnce.{higher_clear, lower_clear}
use Rattle.osm_lattice.proofs.Sizes.{back}
use Rattle.osm_lattice.proofs.conflicts.are_at_other_heights.Goals as goal

pub returns-then-s-t : goal.returns-then-s-t
returns-then-s-t c higher =
    let low = c.args.s.b.y_in in let high = c.args.t.a.y_in in
    higher_clear c.args.s c.args.t (rw (back w32 c.args.s.b.y (omega (arith, low)), back w32 c.args.t.a.y (omega (arith, high))) at higher)

pub returns-else-s-t : goal.returns-else-s-t
returns-else-s-t c lower =
    let low = c.args.t.b.y_in in let high = c.args.s.a.y_in in
    lower_clear c.args.s c.args.t (rw (back w32 c.args.t.b.y (omega (arith, low)), back w32 c.args.s.a.y (omega (arith, high))) at lower)
