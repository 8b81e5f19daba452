-- The chain has a way, and its path is a line.
use Rattle.std.proofs.Common.{◌≡◌, length, ap, sym, subst, ◌∙◌, arith, rules}
use Rattle.coast_join.specs.Joined.{chains_at, locations_along}
use Rattle.coast_rings.specs.Line.{IsLine}
use Rattle.coast_join.proofs.Following.{ways_some}
use Rattle.coast_join.proofs.Parts.{parts_round}
use Rattle.coast_join.proofs.ring_making.unclosed_of.Goals as goal

pub bounds-as_slice-0 : goal.bounds-as_slice-0
bounds-as_slice-0 c =
    let some = ways_some c.args.chains.now c.args.places.now c.requires.some c.requires.inside in
    let same = ap length (c.as_slice.ensures ∙ c.in_ok-ways.ensures) in
    omega arith

pub invariant_of-result : goal.invariant_of-result
invariant_of-result c =
    let some = ways_some c.args.chains.now c.args.places.now c.requires.some c.requires.inside in
    let same = ap length c.in_ok-ways.ensures in
    let path : c.from_vec-path.result ≡ locations_along (chains_at c.args.chains.now c.args.places.now) = search rules in
    record {
      line = subst IsLine (sym path) (parts_round c.args.chains.now c.args.places.now c.requires).line;
      some = omega arith;
    }
