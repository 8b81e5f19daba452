-- Exact edges in the plane: what crates above take of the lemmas on them.
pub use Rattle.osm_geom.proofs.InPlane.Carriers.{on_line, piece_times, piece_times-rises, point-regained}
pub use Rattle.osm_geom.proofs.InPlane.Commons.{common_is_common, count_at_each, den-some, product-some, sided_at_each, sign-some, signed_count_at_each}
pub use Rattle.osm_geom.proofs.InPlane.Directions.{along-cross, along-dot}
pub use Rattle.osm_geom.proofs.InPlane.Lines.{step_of}
pub use Rattle.osm_geom.proofs.InPlane.Multiples.{common-lattice, lattice_point, lattice_whole, times_further}
pub use Rattle.osm_geom.proofs.InPlane.MultipliedEdges.{back_along, each_whole, just_above_alike, rises_alike, segment_rises, spans_alike, step_along}
pub use Rattle.osm_geom.proofs.InPlane.MultipliedPoints.{factor, factor-some, nat, order_is, same_is_same, swapped}
