-- The pieces passed come after the earlier ones.
use Rattle.std.proofs.Common.{List, map, take, ℕ, ◌++◌}
use Rattle.orbits.specs.Along.{StandAlong}
use Rattle.osm_rings.proofs.pieces.add_cut.Given as goal

abbrev pub invariant-loop-piece : goal.invariant-loop-piece
invariant-loop-piece l = (before : List (List ℕ)) → StandAlong before l.fn.pieces.places.items l.fn.pieces.sizes.items
    → StandAlong (before ++ map (λ p. p.items) (take l.piece-index l.piece-items)) l.pieces.places.items l.pieces.sizes.items
