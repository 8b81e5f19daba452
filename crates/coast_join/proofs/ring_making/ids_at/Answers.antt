-- One more chain.
use Rattle.std.proofs.Common.{◌++◌, ℤ, List, ap, sym, ◌∙◌}
use Rattle.coast_join.specs.declared.chain.Chain.{Chain}
use Rattle.coast_join.proofs.Following.{chained}
use Rattle.coast_join.proofs.ring_making.ids_at.Goals as goal

pub loop-place-preserved : goal.loop-place-preserved
loop-place-preserved c = chained (λ (x : Chain). x.ways) c.args.chains.now c.args.places.now c.loop-place.place-index c.index-chains-place.result c.loop-place.ids c.add_ids.new.ids c.loop-place-test.true (c.requires c.loop-place.place-index 0 c.loop-place-test.true) c.index-chains-place.is c.loop-place.invariant
    (c.in_ok-add_ids.ensures ∙ ap (λ (xs : List ℤ). c.loop-place.ids ++ xs) (c.as_slice.ensures ∙ ap (λ (x : Chain). x.ways) (sym c.index-chains-place.is)))
