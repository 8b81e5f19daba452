use Rattle.std.proofs.Common.{◌<◌, ◌≤ℤ◌, ℕ, length, get_or, pos}
use Rattle.coast_join.proofs.ring_making.least.Given as goal

abbrev pub invariant-loop-place : goal.invariant-loop-place
invariant-loop-place l = record {
  inside : l.best < length l.ids;
  least : (k : ℕ) → k < l.place → get_or l.ids l.best (pos 0) ≤ℤ get_or l.ids k (pos 0);
}
