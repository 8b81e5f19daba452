-- One more way.
use Rattle.std.proofs.Common.{◌++◌, ◌∷◌, [], ap, ◌∙◌}
use Rattle.osm_lattice.specs.declared.loc.Loc.{Loc}
use Rattle.coast_join.specs.Chains.{WayPath}
use Rattle.coast_rings.specs.Line.{first_location}
use Rattle.coast_join.proofs.OneMoreWay.{way_more}
use Rattle.coast_join.proofs.chaining.starts.Goals as goal

pub loop-place-preserved : goal.loop-place-preserved
loop-place-preserved c =
    way_more (λ (x : WayPath). first_location x.path) c.args.ways.now c.args.places.now c.loop-place.place-index c.index-ways-place.result c.loop-place.starts.items c.push.new.self.items c.loop-place-test.true (c.requires c.loop-place.place-index 0 c.loop-place-test.true) c.index-ways-place.is c.loop-place.invariant
    (c.in_ok-push.ensures.items ∙ ap (λ (x : Loc). c.loop-place.starts.items ++ x ∷ []) c.first.ensures)
