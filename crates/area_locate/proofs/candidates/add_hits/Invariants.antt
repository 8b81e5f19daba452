-- The hits at the places so far are added.
use Rattle.std.proofs.Common.{[], length, take, ℕ, ◌++◌, ◌<◌, ◌≡◌}
use Rattle.std.specs.Prelude.{slice_index_or}
use Rattle.area_locate.specs.Within.{hits_at}
use Rattle.area_locate.proofs.candidates.add_hits.Given as goal

abbrev pub invariant-loop-k : goal.invariant-loop-k
invariant-loop-k l =
    (length l.hits ≡ length l.initial.hits)
    × ((j : ℕ) → j < length l.initial.hits → slice_index_or l.hits j [] ≡ slice_index_or l.initial.hits j [] ++ hits_at l.of j (take l.k l.near) (take l.k l.places))
