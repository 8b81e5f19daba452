use Rattle.std.proofs.Common.{arith, lit<, refl}
use Rattle.osm_lattice.proofs.LatticeKit.{from_i64, given, held_is, times}
use Rattle.osm_segments.proofs.ranges.order.long_product.Goals as goal

pub returns : goal.returns
returns c =
    let a = given c.args.a c.args.a 18_446_744_073_709_551_615 refl (omega arith) (lit< tt) in
    let b = from_i64 c.from.result c.args.b 9_223_372_036_854_775_807 c.from.ensures (omega arith) (lit< tt) in
    held_is (times a b (lit< tt))
