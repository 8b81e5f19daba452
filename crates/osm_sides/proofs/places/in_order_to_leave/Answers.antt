-- By their upper ends they leave the sweep in order.
use Rattle.std.proofs.Common.{List, Option, subst}
use Rattle.std.specs.Prelude.{IfSome, IsPermutation, Vec}
use Rattle.std.specs.declared.alloc.Global.{Global}
use Rattle.osm_lattice.specs.declared.seg.Seg.{Seg}
use Rattle.osm_segments.specs.Sweep.{AreByEnds}
use Rattle.osm_sides.proofs.places.in_order_to_leave.Goals as goal

pub returns-in-Some : goal.returns-in-Some
returns-in-Some c = c.leaving.ensures c.args.segs.now (subst (λ (ends : Option (Vec Seg Global)). IfSome ends (λ ends. AreByEnds c.args.segs.now ends.items)) c.in-Some.is c.requires)

pub returns-in_ok-from_slice-in-None : goal.returns-in_ok-from_slice-in-None
returns-in_ok-from_slice-in-None c =
    c.leaving-in-None.ensures c.args.segs.now
    (record { moved = subst (λ (xs : List Seg). IsPermutation xs c.in_order_of_ends.result.items) c.in_ok-from_slice-in-None.ensures.items c.in_order_of_ends.ensures.moved; rise = c.in_order_of_ends.ensures.rise })
