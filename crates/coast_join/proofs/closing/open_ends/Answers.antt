-- One more chain.
use Rattle.std.proofs.Common.{◌≡◌, ◌∙◌, ℕ, if◌then◌else◌, Option, Some, None, sym, ap}
use Rattle.osm_lattice.specs.declared.loc.Loc.{Loc}
use Rattle.coast_join.specs.declared.chain.Chain.{Chain}
use Rattle.coast_join.specs.declared.closing.OpenEnds.{OpenEnds}
use Rattle.coast_join.specs.Closings.{open_ends_at}
use Rattle.coast_rings.specs.Line.{first_location, last_location}
use Rattle.coast_join.proofs.Stepping.{tested_some, tested_none}
use Rattle.coast_join.proofs.closing.open_ends.Goals as goal
use Rattle.coast_join.proofs.closing.open_ends.Goals.{then-is_open+in_ok-push, else-is_open}

ends_of : ℕ → Loc → Loc → OpenEnds
ends_of place p q = record { chain = place; start = p; end = q }

pub loop-place-preserved : goal.loop-place-preserved
unfolding ends_of
loop-place-preserved c =
    let i = c.loop-place.place in
    let chain = c.index-chains-place.result in
    let f : ℕ × Chain → Option OpenEnds = λ e. open_ends_at e.0 e.1 in
    elim c.if-is_open.branch [
      | then-is_open+in_ok-push w ↦
          let yes : f (i, chain) ≡ Some (ends_of i (first_location chain.path) (last_location chain.path)) = ap (λ b. if b then Some (ends_of i (first_location chain.path) (last_location chain.path)) else None) (sym c.is_open.ensures ∙ w.if-is_open.true) in
          let made : ends_of i (first_location chain.path) (last_location chain.path) ≡ ends_of i w.first.result w.last.result = ap (λ (p : Loc). ends_of i p (last_location chain.path)) (sym w.first.ensures) ∙ ap (λ (q : Loc). ends_of i w.first.result q) (sym w.last.ensures) in
          rw w.ends-is (tested_some f c.args.chains.now i chain (ends_of i w.first.result w.last.result) c.loop-place.ends.items _ c.loop-place-test.true c.index-chains-place.is (yes ∙ ap Some made) c.loop-place.invariant w.in_ok-push.ensures.items)
      | else-is_open w ↦
          let fails : f (i, chain) ≡ None = ap (λ b. if b then Some (ends_of i (first_location chain.path) (last_location chain.path)) else None) (sym c.is_open.ensures ∙ w.if-is_open.false) in
          rw w.ends-is (tested_none f c.args.chains.now i chain c.loop-place.ends.items c.loop-place-test.true c.index-chains-place.is fails c.loop-place.invariant)
    ]
