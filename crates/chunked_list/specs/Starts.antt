-- How many items stand before each chunk, and where so many items end. No public contract cites it.
use Rattle.std.specs.Prelude.{◌≡◌, ◌<◌, ◌≤◌, ◌+◌, List, [], ◌∷◌, length, slice_index_or, take, ℕ}
use Rattle.std.specs.List.{flat_map}

-- how many items stand before each chunk, if so many stand before the first
abbrev pub starts_from : {X C : Type 0} → (C → List X) → ℕ → List C → List ℕ
starts_from items n [] = []
starts_from items n (c ∷ cs) = n ∷ starts_from items (n + length (items c)) cs

-- The first items, so many of them, end in a chunk: so many of them are its own, one at least, if there are any.
pub record ItemsEnd {X C : Type 0} (items : C → List X) (chunks : List C) (chunk within count : ℕ) : Type 0 where
  pub inside : chunk < length chunks
  pub front : count ≡ length (flat_map items (take chunk chunks)) + within
  pub some : 0 < count → 0 < within
  pub reach : (d : C) → within ≤ length (items (slice_index_or chunks chunk d))
