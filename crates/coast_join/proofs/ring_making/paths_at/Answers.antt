-- One more chain.
use Rattle.std.proofs.Common.{◌++◌, List, ap, sym, ◌∙◌}
use Rattle.osm_lattice.specs.declared.loc.Loc.{Loc}
use Rattle.coast_join.specs.declared.chain.Chain.{Chain}
use Rattle.coast_join.proofs.Following.{chained}
use Rattle.coast_join.proofs.ring_making.paths_at.Goals as goal

pub loop-place-preserved : goal.loop-place-preserved
loop-place-preserved c = chained (λ (x : Chain). x.path) c.args.chains.now c.args.places.now c.loop-place.place-index c.index-chains-place.result c.loop-place.locs.items c.extend_from_slice.new.self.items c.loop-place-test.true (c.requires c.loop-place.place-index 0 c.loop-place-test.true) c.index-chains-place.is c.loop-place.invariant
    (c.in_ok-extend_from_slice.ensures.items ∙ ap (λ (xs : List Loc). c.loop-place.locs.items ++ xs) (c.as_slice.ensures ∙ ap (λ (x : Chain). x.path) (sym c.index-chains-place.is)))
