-- The places of a list, in order of the ids at them.
use Rattle.std.specs.Prelude.{ℕ, ℤ, pos, List, length, map, slice_index_or}
use Rattle.std.specs.List.{range_with_len}
use Rattle.std.specs.List.Sorted.{IsPermutation}
use Rattle.std.specs.Ordering.{int_cmp}
use Rattle.lists.specs.Rising.{IsRising}

abbrev pub id_at : List ℤ → ℕ → ℤ
id_at ids i = slice_index_or ids i (pos 0)

-- each place once, in order of id
pub record AreById (ids : List ℤ) (order : List ℕ) : Type 0 where
  pub each : IsPermutation (range_with_len 0 (length ids)) order
  pub rising : IsRising int_cmp (map (id_at ids) order)

-- each id with its place
abbrev pub ids_with_places : List ℤ → List (ℤ × ℕ)
ids_with_places ids = map (λ i. (id_at ids i, i)) (range_with_len 0 (length ids))
