use Rattle.std.proofs.Common.{length}
use Rattle.osm_elements.proofs.compact.+long_number.Given as goal

abbrev pub decreases-long_number : goal.decreases-long_number
decreases-long_number l = length l.bytes.now
