-- It is packed in the same way.
use Rattle.osm_rings.proofs.EdgeEquality.{same-packed}
use Rattle.osm_rings.proofs.packed.unpack.Goals as goal

pub returns : goal.returns
returns c e is = same-packed c.of.result e c.args.packed (record { carrier = c.of.ensures.carrier; from = c.of.ensures.from; to = c.of.ensures.to }) is
