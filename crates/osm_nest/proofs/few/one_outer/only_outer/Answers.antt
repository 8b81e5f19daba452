-- The first is the only one.
use Rattle.std.proofs.Common.{arith}
use Rattle.osm_nest.proofs.OneOuter.{lone-only, only-of}
use Rattle.osm_nest.proofs.few.one_outer.only_outer.Goals as goal

pub returns-then-rings-eq1 : goal.returns-then-rings-eq1
returns-then-rings-eq1 c = lone-only c.args.rings.now c.requires (omega arith)

pub returns-then-are_inner_from : goal.returns-then-are_inner_from
returns-then-are_inner_from c = only-of c.args.rings.now c.in_ok-place.place c.in_ok-place.ensures (c.are_inner_from.ensures c.if-are_inner_from.true)
