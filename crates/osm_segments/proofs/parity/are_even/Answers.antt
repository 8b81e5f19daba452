use Rattle.osm_segments.proofs.Parities.{moved}
use Rattle.osm_segments.proofs.parity.are_even.Goals as goal

pub returns : goal.returns
returns c even p = moved p c.args.segs.now c.args.ends.now c.requires (c.pass_by_twos.ensures even p)
