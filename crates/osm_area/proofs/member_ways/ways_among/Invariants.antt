use Rattle.std.proofs.Common.{◌≡◌, ◌++◌, length}
use Rattle.osm_area.specs.MemberWays.{ways_among}
use Rattle.osm_area.proofs.member_ways.ways_among.Given as goal

-- the ways so far and those of what is left are all
abbrev pub invariant-loop-member : goal.invariant-loop-member
invariant-loop-member l = l.ways.items ++ ways_among l.rest ≡ ways_among l.members

abbrev pub decreases-loop-member : goal.decreases-loop-member
decreases-loop-member l = length l.rest
