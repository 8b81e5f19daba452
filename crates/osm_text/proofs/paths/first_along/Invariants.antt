use Rattle.std.proofs.Common.{◌≡◌, drop}
use Rattle.osm_text.specs.Paths.{path_along}
use Rattle.osm_text.proofs.paths.first_along.Given as goal

-- none was passed
abbrev pub invariant-loop-edge : goal.invariant-loop-edge
invariant-loop-edge l = path_along (drop l.edge-index l.edges) ≡ path_along l.edges
