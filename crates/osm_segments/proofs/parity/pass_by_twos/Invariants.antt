use Rattle.std.proofs.Common.{◌≡◌, ◌≤◌, ◌+◌, ◌-◌, ◌%◌, drop, length}
use Rattle.osm_lattice.specs.declared.loc.Loc.{Loc}
use Rattle.osm_segments.specs.Parity.{greater_at, lesser_at}
use Rattle.osm_segments.proofs.parity.pass_by_twos.Given as goal

abbrev pub invariant-loop-i : goal.invariant-loop-i
invariant-loop-i l = (l.i ≤ length l.lower) × (l.j ≤ length l.upper) × ((p : Loc) → (lesser_at p l.lower + greater_at p l.upper) % 2 ≡ (lesser_at p (drop l.i l.lower) + greater_at p (drop l.j l.upper)) % 2)

abbrev pub decreases-loop-i : goal.decreases-loop-i
decreases-loop-i l = (length l.lower - l.i) + (length l.upper - l.j)
