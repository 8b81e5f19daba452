-- Lines and rings: what crates above take of the lemmas on them.
pub use Rattle.coast_rings.proofs.Lines.{closed_long, front_differ, front_first, front_last, front_length, last_cons, line_prop}
pub use Rattle.coast_rings.proofs.RingFields.{ring_from_fields}
pub use Rattle.coast_rings.proofs.Rounding.{once_differs, once_line, once_round_short, round_from, round_left}
