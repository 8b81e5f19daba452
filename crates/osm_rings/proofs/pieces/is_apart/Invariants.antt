-- None of the items passed is marked.
use Rattle.std.proofs.Common.{get_or, true, false, ℕ, ◌<◌, ◌≡◌}
use Rattle.osm_rings.proofs.pieces.is_apart.Given as goal

abbrev pub invariant-loop-item : goal.invariant-loop-item
invariant-loop-item l = (k : ℕ) → k < l.item-index → get_or l.shared (get_or l.walk k 0) true ≡ false
