-- What is told of a list of segments: what crates above take of the lemmas on it.
pub use Rattle.osm_segments.proofs.ConflictKinds.{conflicts_of_kind}
pub use Rattle.osm_segments.proofs.OutlineFaults.{odd-nodes-one}
pub use Rattle.osm_segments.proofs.RepeatLists.{repeats_one}
