-- Objects told apart by kind and id: what crates above take of the lemmas on them.
pub use Rattle.osm_objects.proofs.AddLemmas.{one_more_apart}
pub use Rattle.osm_objects.proofs.ApartLemmas.{coast_ways-distinct}
pub use Rattle.osm_objects.proofs.FoundLemmas.{is_at-itself, is_at-symmetric, passes, same_kind-same}
pub use Rattle.osm_objects.proofs.StoreLemmas.{eq-is}
