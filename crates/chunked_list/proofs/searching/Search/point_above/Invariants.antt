use Rattle.std.proofs.Common.{◌-◌, ◌<◌, ◌≡◌, ◌≤◌, Bool, length, slice_index_or, true}
use Rattle.std.specs.Fn.{FnReturnsAt}
use Rattle.chunked_list.proofs.searching.Search.point_above.Given as goal

-- the item before the place passes
abbrev pub invariant-loop : goal.invariant-loop
invariant-loop g l =
    (l.place ≤ length l.self)
    × ((p : _ → Bool) → ((x : _) (told : Bool) → FnReturnsAt g.F.Fn l.test x told → told ≡ p x) → (d : _) → 0 < l.place → p (slice_index_or l.self (l.place - 1) d) ≡ true)
