-- One more direction is known.
use Rattle.osm_sides.proofs.Followers.{known-more}
use Rattle.osm_sides.proofs.few.following.follow.Goals as goal

pub returns-in-None : goal.returns-in-None
returns-in-None c = known-more c.args.segs.now c.loop.known c.loop.place c.loop.up c.loop.invariant.0 c.loop.invariant.1

pub returns-then-is_some : goal.returns-then-is_some
returns-then-is_some c = known-more c.args.segs.now c.loop.known c.loop.place c.loop.up c.loop.invariant.0 c.loop.invariant.1

pub loop-preserved : goal.loop-preserved
loop-preserved c = (c.in-Some.ensures, known-more c.args.segs.now c.loop.known c.loop.place c.loop.up c.loop.invariant.0 c.loop.invariant.1)
