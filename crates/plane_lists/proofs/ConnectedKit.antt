-- Linked edges and whole walks: what crates above take of the lemmas on them.
pub use Rattle.plane_lists.proofs.Connected.AcrossPolygons.{linked_one}
pub use Rattle.plane_lists.proofs.Connected.LinkedEdges.{up-segment}
pub use Rattle.plane_lists.proofs.Connected.LinkedPolygons.{polygon_linked}
pub use Rattle.plane_lists.proofs.Connected.WholeWalks.{in-polygon, rings_are}
