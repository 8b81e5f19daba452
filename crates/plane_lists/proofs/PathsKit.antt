-- Steps, lines and what they join: what crates above take of the lemmas on them.
pub use Rattle.plane_lists.proofs.Paths.BesideInside.{beside-inside, edge-parts, edge-parts-inside, times-none, times-some, winds-across-edge}
pub use Rattle.plane_lists.proofs.Paths.Components.{bit-most, count-member, inside-covers, joined-part, parts, scaled-part}
pub use Rattle.plane_lists.proofs.Paths.Feet.{near-none, none}
pub use Rattle.plane_lists.proofs.Paths.Inside.{between-back, not-minus-not}
pub use Rattle.plane_lists.proofs.Paths.Joins.{free-back}
pub use Rattle.plane_lists.proofs.Paths.Later.{Later, apart-near, later-both, later-free, later-some, later-then}
pub use Rattle.plane_lists.proofs.Paths.LinkedInside.{inside-joined, polygon-connected, some-beside}
pub use Rattle.plane_lists.proofs.Paths.SharedPoints.{apart-exactly}
pub use Rattle.plane_lists.proofs.Paths.Steps.{dot-direction, off-apart}
pub use Rattle.plane_lists.proofs.Paths.Turning.{later-along}
pub use Rattle.plane_lists.proofs.Paths.Winds.{free-off, joined-winds, line-inside, step-winds}
