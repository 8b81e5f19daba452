-- Locations, segments and fractions: what crates above take of the lemmas on them.
pub use Rattle.osm_lattice.proofs.ApartSegments.{before_where}
pub use Rattle.osm_lattice.proofs.CommonPoints.{clear_by}
pub use Rattle.osm_lattice.proofs.CrossingMeets.{on_first}
pub use Rattle.osm_lattice.proofs.Exact.{Is, from_i64, from_unsigned, given, held_is, held_within, minus, minus_fits, plus, plus_fits, times, times_fits}
pub use Rattle.osm_lattice.proofs.Factors.{cancel_factor, some, zero_other}
pub use Rattle.osm_lattice.proofs.Fractions.{FracOf, frac_of}
pub use Rattle.osm_lattice.proofs.Halves.{half_lowest}
pub use Rattle.osm_lattice.proofs.LocationOrder.{equal-null, int_cmp-is, is_lt-plus, less-plus, loc_cmp-is, loc_total, ordering_of-then, rising_edge, seg_total}
pub use Rattle.osm_lattice.proofs.LowestTerms.{frac_same, lowest_prop}
pub use Rattle.osm_lattice.proofs.MeetingBounds.{alike, apart_where_on, on_segment_in}
pub use Rattle.osm_lattice.proofs.Orders.{int_same, latitude_prop, loc_from_fields, loc_from_vectors, loc_same, longitude_prop, seg_from_ends, seg_same}
pub use Rattle.osm_lattice.proofs.Overlaps.{before_less}
pub use Rattle.osm_lattice.proofs.Sizes.{back, distance_in, product_within, signed, x_small, y_small}
pub use Rattle.osm_lattice.proofs.ToldByPoints.{crossing_is_one_point}
