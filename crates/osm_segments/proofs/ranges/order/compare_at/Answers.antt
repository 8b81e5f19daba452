use Rattle.std.proofs.Common.{FitsSigned, ap, arith, rules, ◌∙◌}
use Rattle.std.specs.Int.{w128, w64}
use Rattle.std.proofs.lemmas.Int.{to_z-of_z}
use Rattle.osm_lattice.specs.OrderLaws.{ordering_of}
use Rattle.osm_lattice.proofs.LatticeKit.{back, int_cmp-is}
use Rattle.osm_segments.proofs.StripOrders.{side_by}
use Rattle.osm_segments.proofs.ranges.order.compare_at.Goals as goal

pub returns : goal.returns
returns c =
    let v = c.args.v in let s = c.args.s in let t = c.args.t in
    let first_fits : FitsSigned w128 c.long_product-first.result = search rules in
    let second_fits : FitsSigned w128 c.long_product-second.result = search rules in
    let first = rw (back w128 c.orient.result (omega (arith, c.orient.ensures.small)), back w64 c.rise.result (omega (arith, c.rise.ensures.small))) at c.long_product-first.ensures in
    let second = rw (back w128 c.orient-2.result (omega (arith, c.orient-2.ensures.small)), back w64 c.rise-2.result (omega (arith, c.rise-2.ensures.small))) at c.long_product-second.ensures in
    let told = simp to_z-of_z at c.cmp.ensures in
    told
    ∙ (int_cmp-is c.long_product-first.result c.long_product-second.result
    ∙ (rw (first, second, c.orient.ensures.value, c.orient-2.ensures.value, c.rise.ensures.value, c.rise-2.ensures.value) (ap ordering_of (side_by v s t))))
