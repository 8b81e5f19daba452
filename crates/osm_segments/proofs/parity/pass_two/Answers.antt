use Rattle.std.proofs.Common.{arith}
use Rattle.osm_segments.proofs.Parities.{one_of_each, two_greater, two_lesser}
use Rattle.osm_segments.proofs.parity.pass_two.Goals as goal

pub returns-then-is_same : goal.returns-then-is_same
returns-then-is_same c = one_of_each c.args.lower.now c.args.upper.now c.args.i c.args.j c.index-lower-i.result c.index-upper-j.result (omega arith) (omega arith) (c.is_same.ensures c.if-is_same.true)

pub returns-then-is_same-2 : goal.returns-then-is_same-2
returns-then-is_same-2 c = two_greater c.args.lower.now c.args.upper.now c.args.i c.args.j c.index-upper-j-then-j-upper-3.result c.index-upper-j-then-j-upper-3-2.result c.requires.lesser (omega arith) (c.is_same-then-j-upper-3.ensures c.if-is_same-2.true)

pub returns-then-is_same-3 : goal.returns-then-is_same-3
returns-then-is_same-3 c = two_lesser c.args.lower.now c.args.upper.now c.args.i c.args.j c.index-lower-i-then-i-lower-3.result c.index-lower-i-then-i-lower-3-2.result c.requires.greater (omega arith) (c.is_same-then-i-lower-3.ensures c.if-is_same-3.true)
