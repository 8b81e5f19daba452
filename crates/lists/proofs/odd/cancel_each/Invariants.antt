use Rattle.std.proofs.Common.{length, slice_index_or, take, ◌≡◌, ◌≤◌, ℕ}
use Rattle.lists.specs.Tallied.{IsCancelled}
use Rattle.lists.proofs.odd.cancel_each.Given as goal

-- those passed have cancelled, and those to come stand where they stood
abbrev pub invariant-loop-place : goal.invariant-loop-place
invariant-loop-place g l =
    (l.left ≤ l.place) × (length l.items.items ≡ length l.initial.items.items)
    × ((k : ℕ) (d : _) → l.place ≤ k → slice_index_or l.items.items k d ≡ slice_index_or l.initial.items.items k d)
    × IsCancelled g.T.Ord.cmp (take l.place l.initial.items.items) (take l.left l.items.items)
