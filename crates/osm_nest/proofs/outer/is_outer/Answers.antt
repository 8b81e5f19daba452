-- By the one anchor of the ring.
use Rattle.std.proofs.Common.{◌≡◌, ◌↔◌, false, not, true, sym, subst}
use Rattle.osm_nest.specs.Outer.{IsInner, IsOuter, WindsBySign}
use Rattle.osm_nest.proofs.RingAnchors.{inner-by, outer-by, winds-by-sign}
use Rattle.osm_nest.proofs.outer.is_outer.Goals as goal

pub returns-clause-anchor : goal.returns-clause-anchor
returns-clause-anchor c =
    subst (λ b. (not b ≡ true) ↔ IsOuter c.args.ring.now) (sym c.is_rising.ensures) (outer-by c.args.ring.now c.requires c.anchor.result.now c.anchor.ensures.anchor)

pub returns-clause-inner : goal.returns-clause-inner
returns-clause-inner c =
    subst (λ b. (not b ≡ false) ↔ IsInner c.args.ring.now) (sym c.is_rising.ensures) (inner-by c.args.ring.now c.requires c.anchor.result.now c.anchor.ensures.anchor)

pub returns-clause-sign : goal.returns-clause-sign
returns-clause-sign c =
    subst (λ b. WindsBySign (not b) c.args.ring.now) (sym c.is_rising.ensures) (winds-by-sign c.args.ring.now c.anchor.result.now c.requires c.anchor.ensures.ring c.anchor.ensures.anchor)
