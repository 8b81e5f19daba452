-- Lists one after the other in one list, and how long each is.
use Rattle.std.specs.Prelude.{◌≡◌, ℕ, List, length, map, Option}
use Rattle.std.specs.List.{concat}
use Rattle.orbits.specs.Orbits.{AreOrbits, AreOrbitsInOrder}

-- xs has the lists one after the other, each of its size
pub record StandAlong (xss : List (List ℕ)) (xs sizes : List ℕ) : Type 0 where
  pub joined : concat xss ≡ xs
  pub sized : map length xss ≡ sizes

-- places has the orbits of a map one after the other, in order
pub record AreOrbitsAlong (next : List (Option ℕ)) (places sizes : List ℕ) : Type 0 where
  pub orbits : List (List ℕ)
  pub are : AreOrbits next orbits
  pub order : AreOrbitsInOrder next orbits
  pub along : StandAlong orbits places sizes
