use Rattle.std.proofs.Common.{◌-◌, ◌≡◌, ◌<◌, ◌≤◌, Bool, false, length, slice_index_or, true}
use Rattle.std.specs.Fn.{FnReturnsAt}
use Rattle.chunked_list.proofs.searching.Search.point_by_halves.Given as goal

abbrev pub invariant-loop-low : goal.invariant-loop-low
invariant-loop-low g l =
    (l.low ≤ l.high) × (l.high ≤ length l.self)
    × ((p : _ → Bool) → ((x : _) (told : Bool) → FnReturnsAt g.F.Fn l.test x told → told ≡ p x) → (d : _) →
    (0 < l.low → p (slice_index_or l.self (l.low - 1) d) ≡ true) × (l.high < length l.self → p (slice_index_or l.self l.high d) ≡ false))

abbrev pub decreases-loop-low : goal.decreases-loop-low
decreases-loop-low g l = l.high - l.low
