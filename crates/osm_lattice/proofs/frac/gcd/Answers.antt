use Rattle.std.proofs.lemmas.Nat.Gcd.{IsGcd-from_mod, IsGcd-from_zero}
use Rattle.osm_lattice.proofs.Divisors.{gcd-le, gcd-positive}
use Rattle.osm_lattice.proofs.frac.gcd.Goals as goal

pub loop-y-preserved : goal.loop-y-preserved
loop-y-preserved c = λ g h. c.loop-y.invariant g (IsGcd-from_mod _ _ g h)

pub returns-clause-value : goal.returns-clause-value
returns-clause-value c = c.loop-y.invariant _ (IsGcd-from_zero _ _ c.loop-y-test.false)

pub returns-clause-at_most : goal.returns-clause-at_most
returns-clause-at_most c = gcd-le _ _ _ (c.loop-y.invariant _ (IsGcd-from_zero _ _ c.loop-y-test.false))

pub returns-clause-positive : goal.returns-clause-positive
returns-clause-positive c = gcd-positive _ _ _ (c.loop-y.invariant _ (IsGcd-from_zero _ _ c.loop-y-test.false))
