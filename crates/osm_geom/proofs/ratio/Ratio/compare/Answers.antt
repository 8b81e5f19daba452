use Rattle.std.proofs.Common.{lit<, refl, arith}
use Rattle.osm_lattice.proofs.LatticeKit.{given, from_unsigned, times, held_is}
use Rattle.osm_geom.proofs.ratio.Ratio.compare.Goals as goal

pub returns : goal.returns
returns c =
    let p_in = c.args.self.num_in in
    let q_in = c.args.self.den_in in
    let r_in = c.args.other.num_in in
    let s_in = c.args.other.den_in in
    let p = given c.args.self.num c.args.self.num 7_730_941_132_800_000_000 refl (omega arith) (lit< tt) in
    let r = given c.args.other.num c.args.other.num 7_730_941_132_800_000_000 refl (omega arith) (lit< tt) in
    let s = from_unsigned c.from.result c.args.other.den 3_600_000_000 c.from.ensures s_in.1 (lit< tt) in
    let q = from_unsigned c.from-2.result c.args.self.den 3_600_000_000 c.from-2.ensures q_in.1 (lit< tt) in
    rw (held_is (times p s (lit< tt)), held_is (times r q (lit< tt))) at c.cmp.ensures
