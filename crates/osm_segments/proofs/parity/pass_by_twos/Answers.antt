use Rattle.std.proofs.Common.{arith, ◌∙◌}
use Rattle.osm_segments.proofs.Parities.{none_left}
use Rattle.osm_segments.proofs.parity.pass_by_twos.Goals as goal

pub loop-i-preserved : goal.loop-i-preserved
loop-i-preserved c =
    let passed = c.in-Some.ensures in
    (passed.within_lesser, passed.within_greater, λ p. c.loop-i.invariant.2 p ∙ passed.two p)

pub returns : goal.returns
returns c _ p = c.loop-i.invariant.2 p ∙ none_left p c.args.lower.now c.args.upper.now c.loop-i.i c.loop-i.j (omega arith) (omega arith)
