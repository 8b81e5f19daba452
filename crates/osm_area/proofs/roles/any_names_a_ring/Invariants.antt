use Rattle.std.proofs.Common.{◌≡◌, length}
use Rattle.std.specs.List.{list_any}
use Rattle.osm_area.specs.RoleKinds.{names_a_ring}
use Rattle.osm_area.proofs.roles.any_names_a_ring.Given as goal

abbrev pub invariant-loop-member : goal.invariant-loop-member
invariant-loop-member l = list_any names_a_ring l.rest ≡ list_any names_a_ring l.members

abbrev pub decreases-loop-member : goal.decreases-loop-member
decreases-loop-member l = length l.rest
