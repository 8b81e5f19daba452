-- Numbers in bytes, texts, and coordinates: what crates above take of the lemmas on them.
pub use Rattle.osm_elements.proofs.HeldLemmas.{first_more}
pub use Rattle.osm_elements.proofs.PlaceLaws.{latitude-at, latitude-held, latitude-units, longitude-at, longitude-held, longitude-units, place-at, placed}
