-- The eastmost end of the first is left of the westmost one of the second.
use Rattle.std.proofs.Common.{arith, rules}
use Rattle.std.specs.Int.{w32}
use Rattle.std.proofs.lemmas.Int.{to_z-of_z}
use Rattle.osm_lattice.proofs.ClearAtOnce.{west_by}
use Rattle.osm_lattice.proofs.Sizes.{back}
use Rattle.osm_lattice.proofs.conflicts.is_left_of.Goals as goal

pub returns : goal.returns
returns c less =
    let s = c.args.s in let t = c.args.t in
    let sa_in = s.a.x_in in let sb_in = s.b.x_in in let ta_in = t.a.x_in in let tb_in = t.b.x_in in
    west_by s t c.max.result c.min.result
    (rw (back w32 s.a.x (omega (arith, sa_in))) at c.max.ensures.self_bound)
    (rw (back w32 s.b.x (omega (arith, sb_in))) at c.max.ensures.other_bound)
    (rw (back w32 t.a.x (omega (arith, ta_in))) at c.min.ensures.self_bound)
    (rw (back w32 t.b.x (omega (arith, tb_in))) at c.min.ensures.other_bound)
    (rw (to_z-of_z w32 c.max.result (search rules), to_z-of_z w32 c.min.result (search rules)) at less)
