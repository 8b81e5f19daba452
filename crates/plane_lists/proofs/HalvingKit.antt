-- Halves of a sided list: what crates above take of the lemmas on them.
pub use Rattle.plane_lists.proofs.Halves.AlongLine.{IsApart}
pub use Rattle.plane_lists.proofs.Halves.Balance.{IsAfter, counted-either-way, ends_from, is_from}
pub use Rattle.plane_lists.proofs.Halves.Halves.{balanced, beyond-at, counted-at, kept-at, off-beyond-at, off-kept-at}
pub use Rattle.plane_lists.proofs.Halves.Means.{IsMean, mean-cross, meeting-is-mean, meeting-is-mean-back, meeting-one, meeting-one-back}
pub use Rattle.plane_lists.proofs.Halves.Plain.{AllPlaced, all-placed, first-step, half-plain, next-placed}
pub use Rattle.plane_lists.proofs.Halves.ScaledHalves.{side-scaled}
