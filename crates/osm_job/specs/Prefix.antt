-- A prefix of a list.
use Rattle.std.specs.Prelude.{◌≡◌, List, ◌++◌}

-- xs is a prefix of ys
pub record IsPrefix {A : Type 0} (xs ys : List A) : Type 0 where
  pub rest : List A
  pub whole : ys ≡ xs ++ rest
