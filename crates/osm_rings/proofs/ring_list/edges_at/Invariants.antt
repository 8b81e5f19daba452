-- The edges at the places passed.
use Rattle.std.proofs.Common.{◌≡◌, take}
use Rattle.osm_rings.specs.Pieces.{edges_at}
use Rattle.osm_rings.proofs.ring_list.edges_at.Given as goal

abbrev pub invariant-loop-place : goal.invariant-loop-place
invariant-loop-place l = l.found.items ≡ edges_at l.edges (take l.place-index l.places)
