-- Valid polygons: what crates above take of the lemmas on them.
pub use Rattle.plane_lists.proofs.Valid.ValidPolygons.{valid_polygons}
