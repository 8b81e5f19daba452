use Rattle.std.proofs.Common.{length, ◌≤◌}
use Rattle.chunked_list.proofs.searching.Search.point_below.Given as goal

abbrev pub invariant-loop : goal.invariant-loop
invariant-loop g l = l.place ≤ length l.self
