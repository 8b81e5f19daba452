-- The laws of lists that share out numbers, from the lemmas.
use Rattle.orbits.proofs.Members.{held_distinct}
use Rattle.orbits.proofs.Sums.{all_below, sums_agree}
use Rattle.orbits.proofs.laws.each_stands_once.Goals as goal

pub returns-clause-below : goal.returns-clause-below
returns-clause-below c = all_below

pub returns-clause-apart : goal.returns-clause-apart
returns-clause-apart c = held_distinct

pub returns-clause-sums : goal.returns-clause-sums
returns-clause-sums c = sums_agree
