-- Points that are moved or rounded: what crates above take of the lemmas on them.
pub use Rattle.plane_lists.proofs.Rounded.Factors.{factor-rounds}
pub use Rattle.plane_lists.proofs.Rounded.PointEdges.{steps-crossed, steps-scaled, steps-wind}
pub use Rattle.plane_lists.proofs.Rounded.Roundings.{beyond-off, rounded-near, rounded-odd, rounded-off, rounded-winds}
