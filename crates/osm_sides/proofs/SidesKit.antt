-- Directed segments: what crates above take of the lemmas on them.
pub use Rattle.osm_sides.proofs.DirectedSides.{directed_counts, directed_is_sided}
pub use Rattle.osm_sides.proofs.DirectionLists.{directions_one}
pub use Rattle.osm_sides.proofs.LevelParts.{are_alike, on_between}
pub use Rattle.osm_sides.proofs.Survivors.{even_points}
