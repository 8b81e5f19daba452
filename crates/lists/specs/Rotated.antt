-- Cyclic lists begun elsewhere.
use Rattle.std.specs.Prelude.{List, ◌++◌, ◌≡◌}

-- q is the cyclic list p begun at another of its items
pub record IsRotated {X : Type 0} (p q : List X) : Type 0 where
  pub front : List X
  pub back : List X
  pub old : p ≡ front ++ back
  pub new : q ≡ back ++ front
