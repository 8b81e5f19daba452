use Rattle.std.proofs.Common.{replicate, refl}
use Rattle.osm_notation.proofs.StringLemmas.{hex-begins, hex-more}
use Rattle.osm_notation.proofs.strings.put_hexadecimal.Goals as goal

pub loop-left-init : goal.loop-left-init
loop-left-init c = rw c.digit.ensures (hex-begins c.args.number (replicate 8 48) c.ranges.number.fits refl)

pub loop-left-preserved : goal.loop-left-preserved
loop-left-preserved c = rw c.digit-in-loop-left.ensures (hex-more c.args.number c.loop-left.left c.loop-left.at c.loop-left.digits c.loop-left-test.true c.loop-left.invariant)
