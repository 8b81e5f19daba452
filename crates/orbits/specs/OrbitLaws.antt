-- Orbits, as statements.
use Rattle.std.specs.Prelude.{List, Option, ℕ, ◌≡◌}
use Rattle.orbits.specs.Orbits.{AreOrbits, AreOrbitsInOrder, IsOneToOne}

-- every partial one-to-one map has orbits in order
abbrev pub OrbitsExist : Type 0
OrbitsExist = (next : List (Option ℕ)) → IsOneToOne next → (os : List (List ℕ)) × AreOrbits next os × AreOrbitsInOrder next os

-- it has at most one list of them
abbrev pub OrbitsAreOne : Type 0
OrbitsAreOne = (next : List (Option ℕ)) → IsOneToOne next → (os ps : List (List ℕ)) → AreOrbits next os → AreOrbitsInOrder next os → AreOrbits next ps → AreOrbitsInOrder next ps → os ≡ ps
