use Rattle.std.proofs.Common.{length}
use Rattle.osm_segments.proofs.ranges.division.+settle_strip.Given as goal

abbrev pub decreases-settle_strip : goal.decreases-settle_strip
decreases-settle_strip l = length l.heights.now
