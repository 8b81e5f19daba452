use Rattle.std.proofs.Common.{Bool, filter, length, take, ◌-◌, ◌≡◌, ◌≤◌}
use Rattle.std.specs.Fn.{FnReturnsAt}
use Rattle.chunked_list.proofs.list.ChunkedList.retain.Given as goal

abbrev pub invariant-loop-place : goal.invariant-loop-place
invariant-loop-place g l =
    (l.place ≤ length l.self)
    × ((p : _ → Bool) → ((x : _) (told : Bool) → FnReturnsAt g.F.Fn l.test x told → told ≡ p x) →
    (filter p l.self ≡ filter p l.initial.self) × (filter p (take l.place l.self) ≡ take l.place l.self))

abbrev pub decreases-loop-place : goal.decreases-loop-place
decreases-loop-place g l = length l.self - l.place
