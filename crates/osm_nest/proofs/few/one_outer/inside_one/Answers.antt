-- One more.
use Rattle.osm_nest.proofs.OneOuter.{under-more}
use Rattle.osm_nest.proofs.few.one_outer.inside_one.Goals as goal

pub loop-place-preserved : goal.loop-place-preserved
loop-place-preserved c = under-more c.args.only c.loop-place.place c.loop-place.enclosers.items c.push.new.self.items c.then_some.result c.in_ok-push.ensures.items c.then_some.ensures c.loop-place.invariant
