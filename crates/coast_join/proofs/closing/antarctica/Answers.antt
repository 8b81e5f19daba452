-- One more chain.
use Rattle.std.proofs.Common.{◌≡◌, ◌∙◌, ℕ, if◌then◌else◌, Option, Some, None, sym, ap}
use Rattle.coast_join.specs.declared.chain.Chain.{Chain}
use Rattle.coast_join.specs.Closings.{is_antarctic}
use Rattle.coast_join.proofs.Stepping.{tested_some, tested_none}
use Rattle.coast_join.proofs.closing.antarctica.Goals as goal
use Rattle.coast_join.proofs.closing.antarctica.Goals.{then-is_antarctic+in_ok-push, else-is_antarctic}

pub loop-place-preserved : goal.loop-place-preserved
loop-place-preserved c =
    let i = c.loop-place.place in
    let chain = c.index-chains-place.result in
    let f : ℕ × Chain → Option ℕ = λ e. if is_antarctic e.1 then Some e.0 else None in
    elim c.if-is_antarctic.branch [
      | then-is_antarctic+in_ok-push w ↦
          let yes : f (i, chain) ≡ Some i = ap (λ b. if b then Some i else None) (sym c.is_antarctic.ensures ∙ w.if-is_antarctic.true) in
          rw w.places-is (tested_some f c.args.chains.now i chain i c.loop-place.places _ c.loop-place-test.true c.index-chains-place.is yes c.loop-place.invariant w.in_ok-push.ensures.ok)
      | else-is_antarctic w ↦
          let fails : f (i, chain) ≡ None = ap (λ b. if b then Some i else None) (sym c.is_antarctic.ensures ∙ w.if-is_antarctic.false) in
          rw w.places-is (tested_none f c.args.chains.now i chain c.loop-place.places c.loop-place-test.true c.index-chains-place.is fails c.loop-place.invariant)
    ]
