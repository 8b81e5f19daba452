-- The parity of the edges passed.
use Rattle.std.proofs.Common.{take, ◌≡◌}
use Rattle.osm_nest.specs.Beside.{is_around}
use Rattle.osm_nest.proofs.few.search.is_around.Given as goal

abbrev pub invariant-loop-edge : goal.invariant-loop-edge
invariant-loop-edge l = l.odd ≡ is_around l.anchor (take l.edge-index l.edges)
