-- The points at the places so far.
use Rattle.std.proofs.Common.{length, map, take, ◌≡◌}
use Rattle.std.specs.Prelude.{slice_index_or}
use Rattle.osm_lattice.specs.declared.loc.Loc.{Loc}
use Rattle.area_locate.proofs.within.points_at.Given as goal

abbrev pub invariant-loop-place : goal.invariant-loop-place
invariant-loop-place l = (length l.there.items ≡ l.place-index) × ((d : Loc) → l.there.items ≡ map (λ i. slice_index_or l.points i d) (take l.place-index l.places))
