use Rattle.std.proofs.Common.{length, take, ◌+◌, ◌≡◌}
use Rattle.coast_split.specs.Walk.{AddsWalk, IsEndOnLine, last_of_walk}
use Rattle.coast_split.proofs.halves.push_links_from.Given as goal

abbrev pub invariant-loop-place : goal.invariant-loop-place
invariant-loop-place l =
    AddsWalk l.cut l.side (length l.rest + 1) l.fn.first (take l.place l.rest) l.fn.edges l.edges
    × (l.before ≡ last_of_walk l.fn.first (take l.place l.rest))
    × IsEndOnLine l.cut l.before
