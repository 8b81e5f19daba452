-- The laws of orbits, from the lemmas.
use Rattle.orbits.proofs.Exists.{orbits_exist}
use Rattle.orbits.proofs.Unique.{same_orbits}
use Rattle.orbits.proofs.laws.orbits_are_determined.Goals as goal

pub returns-clause-exist : goal.returns-clause-exist
returns-clause-exist c = orbits_exist

pub returns-clause-one : goal.returns-clause-one
returns-clause-one c = same_orbits
