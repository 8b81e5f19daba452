-- The pieces of the walks passed, and the places of those left.
use Rattle.std.proofs.Common.{◌≡◌, List, drop, length, take, ℕ}
use Rattle.std.specs.List.{concat}
use Rattle.osm_rings.specs.Pieces.{AreCutAlong, AreWalksBelow}
use Rattle.osm_rings.proofs.pieces.pieces.Given as goal

abbrev pub invariant-loop-size : goal.invariant-loop-size
invariant-loop-size l = record {
  room : length l.depths.items ≡ length l.nodes.numbers.items;
  cut : (walks : List (List ℕ)) → AreWalksBelow (length l.nodes.numbers.items) walks l.places l.sizes
      → (l.left ≡ concat (drop l.size-index walks)) × AreCutAlong l.nodes.numbers.items (take l.size-index walks) l.pieces.places.items l.pieces.sizes.items;
}
