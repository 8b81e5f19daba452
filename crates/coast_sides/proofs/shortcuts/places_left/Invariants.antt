use Rattle.std.proofs.Common.{◌≡◌, Bool, filter, map, not, take, ℕ}
use Rattle.std.specs.List.{enumerate_from}
use Rattle.osm_lattice.specs.declared.loc.Loc.{Loc}
use Rattle.coast_sides.proofs.shortcuts.places_left.Given as goal

abbrev pub invariant-loop-place : goal.invariant-loop-place
invariant-loop-place l = l.left.items ≡ map (λ (m : ℕ × (Loc × Bool)). m.0) (filter (λ (m : ℕ × (Loc × Bool)). not m.1.1) (take l.place (enumerate_from 0 l.marks)))
