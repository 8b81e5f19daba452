-- Good lines and what they tell: what crates above take of the lemmas on them.
pub use Rattle.osm_input.proofs.Lines.{good_not_bad, one_more_told}
