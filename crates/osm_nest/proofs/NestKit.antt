-- Polygons and their rings: what crates above take of the lemmas on them.
pub use Rattle.osm_nest.proofs.BegunPolygons.{was as polygon-was}
pub use Rattle.osm_nest.proofs.NestedKinds.{begun-from}
