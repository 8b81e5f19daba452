-- One more orbit.
use Rattle.std.proofs.Common.{◌<◌, ℕ, All, List, length, map, sym, subst, arith}
use Rattle.std.proofs.lemmas.List.{length-map}
use Rattle.coast_join.proofs.Joining.{zip_more, list_at, list_is}
use Rattle.orbits.specs.Orbits.{IsOrbit}
use Rattle.coast_join.specs.Chains.{IsChain}
use Rattle.coast_join.specs.ChainSteps.{ways_at}
use Rattle.coast_join.proofs.chaining.chains_of.Goals as goal

pub chain_at-requires-clause-orbit : goal.chain_at-requires-clause-orbit
chain_at-requires-clause-orbit c = subst (IsOrbit c.args.next.now) (sym c.deref.ensures.value) (list_at (IsOrbit c.args.next.now) c.args.orbits.now c.loop-orbit.orbit-index c.orbit-item.result c.requires.orbits c.loop-orbit-test.true c.orbit-item.is)

pub chain_at-requires-clause-below : goal.chain_at-requires-clause-below
chain_at-requires-clause-below c =
    let P : List ℕ → Type 0 = All (λ k. k < length c.args.order.now) in
    subst P (sym c.deref.ensures.value) (list_at P c.args.orbits.now c.loop-orbit.orbit-index c.orbit-item.result c.requires.below c.loop-orbit-test.true c.orbit-item.is)

pub loop-orbit-preserved : goal.loop-orbit-preserved
loop-orbit-preserved c =
    let os = map (λ o. o.items) c.args.orbits.now in
    let i = c.loop-orbit.orbit-index in
    let sized = length-map c.args.orbits.now (λ o. o.items) in
    let R = IsChain (ways_at c.args.ways.now c.args.order.now) c.args.next.now in
    let here : R c.orbit-item.result.items c.in_ok-chain_at.field-0 = subst (λ (o : List ℕ). R o c.in_ok-chain_at.field-0) c.deref.ensures.value c.in_ok-chain_at.ensures in
    rw c.in_ok-push.ensures.items (zip_more R os c.loop-orbit.chains.items i c.orbit-item.result.items c.in_ok-chain_at.field-0 (let l = c.loop-orbit-test.true in omega arith) (list_is c.args.orbits.now i c.orbit-item.result c.loop-orbit-test.true c.orbit-item.is) c.loop-orbit.invariant here)
