-- The ring has a way.
use Rattle.std.proofs.Common.{length, ap, ◌∙◌, arith}
use Rattle.coast_join.proofs.Following.{ways_some}
use Rattle.coast_join.proofs.ring_making.ring_of.Goals as goal

pub least-name-requires : goal.least-name-requires
least-name-requires c =
    let some = ways_some c.args.chains.now c.args.places.now c.requires.some c.requires.inside in
    let same = ap length (c.as_slice.ensures ∙ c.in_ok-ways.ensures) in
    omega arith
