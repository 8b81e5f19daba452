use Rattle.std.proofs.Common.{◌≡◌, map}
use Rattle.std.specs.List.{range_with_len}
use Rattle.coast_join.specs.ById.{id_at}
use Rattle.coast_join.proofs.by_id.ids_with_places.Given as goal

abbrev pub invariant-loop-place : goal.invariant-loop-place
invariant-loop-place l = l.placed.items ≡ map (λ i. (id_at l.ids i, i)) (range_with_len 0 l.place)
