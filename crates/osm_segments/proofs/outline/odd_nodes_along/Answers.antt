use Rattle.std.proofs.Common.{subst, sym}
use Rattle.osm_segments.specs.Counts.{AreOddNodes}
use Rattle.osm_segments.proofs.Parities.{no_odd_nodes}
use Rattle.osm_segments.proofs.outline.odd_nodes_along.Goals as goal

pub returns-then-are_even : goal.returns-then-are_even
returns-then-are_even c = subst (AreOddNodes c.args.segs.now) (sym c.new.ensures.items) (no_odd_nodes c.args.segs.now (c.are_even.ensures c.if-are_even.true))
