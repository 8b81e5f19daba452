-- What a text has if memory ran out before everything was added to it.
use Rattle.std.specs.Prelude.{ℕ, List, length, take, ◌≡◌}

-- what was there before stays in front
abbrev pub KeepsFront : List ℕ → List ℕ → Type 0
KeepsFront before now = take (length before) now ≡ before
