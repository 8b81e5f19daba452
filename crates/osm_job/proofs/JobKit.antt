-- Jobs: what crates above take of the lemmas on them.
pub use Rattle.osm_job.proofs.Wholes.{whole_same}
