-- One more orbit.
use Rattle.std.proofs.Common.{◌≡◌, ◌<◌, ℕ, All, List, length, map, sym, ap, subst, ◌∙◌, arith}
use Rattle.std.proofs.lemmas.List.{length-map}
use Rattle.coast_rings.specs.declared.ring.CoastRing.{CoastRing}
use Rattle.coast_join.specs.Joined.{IsCoastRing, chains_at, is_closed_orbit}
use Rattle.coast_join.specs.JoinSteps.{AreParts}
use Rattle.coast_join.proofs.Joining.{list_at, list_is, zip_kept, zip_passed}
use Rattle.coast_join.proofs.regained.rings.Goals as goal
use Rattle.coast_join.proofs.regained.rings.Goals.{then-is_closed_orbit+in_ok-ring_of+in_ok-push, else-is_closed_orbit}

pub is_closed_orbit-requires-clause-some : goal.is_closed_orbit-requires-clause-some
is_closed_orbit-requires-clause-some c =
    let here = list_at (AreParts c.args.chains.now) c.args.orbits.now c.loop-orbit.orbit-index c.orbit-item.result c.requires.parts c.loop-orbit-test.true c.orbit-item.is in
    subst (λ (o : List ℕ). 0 < length o) (sym c.deref.ensures.value) here.some

pub is_closed_orbit-requires-clause-inside : goal.is_closed_orbit-requires-clause-inside
is_closed_orbit-requires-clause-inside c =
    let here = list_at (AreParts c.args.chains.now) c.args.orbits.now c.loop-orbit.orbit-index c.orbit-item.result c.requires.parts c.loop-orbit-test.true c.orbit-item.is in
    subst (λ (o : List ℕ). All (λ k. k < length c.args.next.now) o) (sym c.deref.ensures.value) (subst (λ m. All (λ k. k < m) c.orbit-item.result.items) (sym c.requires.sized) here.inside)

pub ring_of-requires : goal.ring_of-requires
ring_of-requires c =
    let here = list_at (AreParts c.args.chains.now) c.args.orbits.now c.loop-orbit.orbit-index c.orbit-item.result c.requires.parts c.loop-orbit-test.true c.orbit-item.is in
    subst (AreParts c.args.chains.now) (sym c.deref-then-is_closed_orbit.ensures.value) here

pub loop-orbit-preserved : goal.loop-orbit-preserved
loop-orbit-preserved c =
    let os = map (λ o. o.items) c.args.orbits.now in
    let i = c.loop-orbit.orbit-index in
    let sized = length-map c.args.orbits.now (λ o. o.items) in
    let inside : i < length os = let l = c.loop-orbit-test.true in omega arith in
    let o = c.orbit-item.result.items in
    let is = list_is c.args.orbits.now i c.orbit-item.result c.loop-orbit-test.true c.orbit-item.is in
    let tested : c.is_closed_orbit.result ≡ is_closed_orbit c.args.next.now o = c.is_closed_orbit.ensures ∙ ap (is_closed_orbit c.args.next.now) c.deref.ensures.value in
    elim c.if-is_closed_orbit.branch [
      | then-is_closed_orbit+in_ok-ring_of+in_ok-push w ↦
          let made = subst (λ (o : List ℕ). IsCoastRing (chains_at c.args.chains.now o) w.in_ok-ring_of.field-0) w.deref-then-is_closed_orbit.ensures.value w.in_ok-ring_of.ensures in
          rw (w.rings-is, w.in_ok-push.ensures.items) (zip_kept (λ (o : List ℕ) (x : CoastRing). IsCoastRing (chains_at c.args.chains.now o) x) (is_closed_orbit c.args.next.now) os c.loop-orbit.rings.items i o w.in_ok-ring_of.field-0 inside is (sym tested ∙ w.if-is_closed_orbit.true) c.loop-orbit.invariant made)
      | else-is_closed_orbit w ↦ rw w.rings-is (zip_passed (λ (o : List ℕ) (x : CoastRing). IsCoastRing (chains_at c.args.chains.now o) x) (is_closed_orbit c.args.next.now) os c.loop-orbit.rings.items i o inside is (sym tested ∙ w.if-is_closed_orbit.false) c.loop-orbit.invariant)
    ]
