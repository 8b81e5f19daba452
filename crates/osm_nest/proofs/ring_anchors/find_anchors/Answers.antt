-- One more ring.
use Rattle.std.proofs.Common.{arith, false, length, not, subst, sym, true, ◌≡◌, ◌↔◌}
use Rattle.osm_nest.specs.Outer.{IsAnchorOf, IsInner, IsOuter}
use Rattle.osm_nest.proofs.AnchorLists.{listed-all, one-listed}
use Rattle.osm_nest.proofs.DirectEnclosers.{clear-item}
use Rattle.osm_nest.proofs.Filled.{told-step}
use Rattle.osm_nest.proofs.RingAnchors.{inner-by, outer-by}
use Rattle.osm_nest.proofs.ring_anchors.find_anchors.Goals as goal

pub anchor-edge-requires : goal.anchor-edge-requires
anchor-edge-requires c = clear-item c.args.rings.now c.requires c.loop-place.place c.index-rings-place.result c.loop-place-test.true c.index-rings-place.is

pub loop-place-preserved : goal.loop-place-preserved
loop-place-preserved c =
    let rs = c.args.rings.now in let n = c.loop-place.place in let r = c.index-rings-place.result in let e = c.anchor-edge.result.now in
    let clear = clear-item rs c.requires n r c.loop-place-test.true c.index-rings-place.is in (
      one-listed rs n c.loop-place.edges.items c.push.new.self.items r c.of.result c.loop-place-test.true c.index-rings-place.is c.of.ensures.ring (subst (λ x. IsAnchorOf x r) (sym c.of.ensures.edge) c.anchor-edge.ensures.anchor) c.in_ok-push.ensures.items c.loop-place.invariant.0,
      told-step rs n c.loop-place.outer.items c.push-in-loop-place.new.self.items r (not c.is_rising.result) c.loop-place-test.true c.index-rings-place.is c.in_ok-push-2.ensures.items
          (subst (λ b. (not b ≡ true) ↔ IsOuter r) (sym c.is_rising.ensures) (outer-by r clear e c.anchor-edge.ensures.anchor))
          (subst (λ b. (not b ≡ false) ↔ IsInner r) (sym c.is_rising.ensures) (inner-by r clear e c.anchor-edge.ensures.anchor)) c.loop-place.invariant.1,
    )

pub returns : goal.returns
returns c = listed-all c.args.rings.now c.loop-place.place _ (let e : c.loop-place.place ≡ length c.args.rings.now = omega arith in e) c.loop-place.invariant.0 c.loop-place.invariant.1
