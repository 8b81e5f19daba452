-- All in order, or under their enclosers.
use Rattle.std.proofs.Common.{List, Option, arith, length, subst, sym, ◌∙◌, ◌≡◌, ℕ}
use Rattle.std.proofs.lemmas.Result.{IfOk-weaker}
use Rattle.osm_geom.specs.declared.edge.Edge.{Edge}
use Rattle.osm_nest.specs.Enclosers.{AreDirectEnclosers}
use Rattle.osm_nest.specs.Grouped.{AreStartsSorted, AreTurned, IsGrouping, MayBeGrouped, polygons_of_all}
use Rattle.osm_nest.specs.OneOuter.{IsOnlyOuter, enclosers_under}
use Rattle.osm_nest.specs.RingLists.{AreRings}
use Rattle.osm_nest.proofs.OneOuter.{all-direct}
use Rattle.osm_nest.proofs.PolygonOfAll.{all-grouping}
use Rattle.osm_nest.proofs.grouping.under_one.Goals as goal

-- what turned rings are grouped by
grouped-by : (rs given xs : List (List Edge)) (only count : ℕ) (hs ts : List (Option ℕ)) → AreRings rs → IsOnlyOuter rs only → given ≡ rs → AreTurned given xs → count ≡ length xs → hs ≡ enclosers_under only 0 count → ts ≡ hs → MayBeGrouped rs xs ts
grouped-by rs given xs only count hs ts are one own turned size made same =
    let t : AreTurned rs xs = subst (λ rs. AreTurned rs xs) own turned in
    record {
      rings = are;
      turned = t;
      right = subst (AreDirectEnclosers rs) (sym (same ∙ made)) (all-direct rs are only one count (size ∙ t.sized));
    }

pub polygon_of_all-requires : goal.polygon_of_all-requires
polygon_of_all-requires c = let t : AreTurned c.args.rings c.turned-rings.result.items = subst (λ rs. AreTurned rs c.turned-rings.result.items) c.into_vec.ensures c.turned-rings.ensures in let s = t.sized in let i = c.requires.only.inside in omega (arith, s, i)

pub returns-then-are_in_order : goal.returns-then-are_in_order
returns-then-are_in_order c =
    let rs = c.args.rings in let xs = c.turned-rings.result.items in
    IfOk-weaker c.polygon_of_all.result (λ v. v ≡ polygons_of_all c.args.only xs) (IsGrouping rs)
    (all-grouping rs xs c.args.only c.requires.rings c.requires.only
    (subst (λ rs. AreTurned rs xs) c.into_vec.ensures c.turned-rings.ensures)
    (subst AreStartsSorted c.deref.ensures.value (c.are_in_order.ensures c.if-are_in_order.true))) c.polygon_of_all.ensures

pub under_enclosers-requires : goal.under_enclosers-requires
under_enclosers-requires c = (c.args.rings, grouped-by c.args.rings c.into_vec.result.items c.turned-rings.result.items c.args.only c.len.result c.in_ok-enclosers.enclosers.items c.deref-2.result.now c.requires.rings c.requires.only c.into_vec.ensures c.turned-rings.ensures (let e : c.len.result ≡ length c.turned-rings.result.items = omega arith in e) c.in_ok-enclosers.ensures c.deref-2.ensures.value)

pub returns : goal.returns
returns c =
    let rs = c.args.rings in
    IfOk-weaker c.under_enclosers.result (λ v. (rs : List (List Edge)) → MayBeGrouped rs c.turned-rings.result.items c.deref-2.result.now → IsGrouping rs v) (IsGrouping rs)
    (λ v h. h rs (grouped-by rs c.into_vec.result.items c.turned-rings.result.items c.args.only c.len.result c.in_ok-enclosers.enclosers.items c.deref-2.result.now c.requires.rings c.requires.only c.into_vec.ensures c.turned-rings.ensures (let e : c.len.result ≡ length c.turned-rings.result.items = omega arith in e) c.in_ok-enclosers.ensures c.deref-2.ensures.value)) c.under_enclosers.ensures
