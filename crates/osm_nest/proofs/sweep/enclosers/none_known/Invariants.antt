-- None is known.
use Rattle.std.proofs.Common.{All, None, Option, length, ℕ, ◌≡◌}
use Rattle.osm_nest.proofs.sweep.enclosers.none_known.Given as goal

abbrev pub invariant-loop : goal.invariant-loop
invariant-loop l = (length l.known.items ≡ l.counter) × All (λ (o : Option ℕ). o ≡ None) l.known.items
