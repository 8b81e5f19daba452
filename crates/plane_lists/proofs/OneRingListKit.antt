-- Rings of walks: what crates above take of the lemmas on them.
pub use Rattle.plane_lists.proofs.OneRingList.ByComputing.{every, every-all, every-out}
pub use Rattle.plane_lists.proofs.OneRingList.Crescents.{crescent_hole, crescent_outline, crescents_outlined, edge_between, high_tip, left_corner, left_crescent, low_tip, middle_corner, outlined_ring_list, point_at, right_corner}
pub use Rattle.plane_lists.proofs.OneRingList.CyclicLists.{Overlap, Turned, in-turned, overlap, pairs-turned, turned-through}
pub use Rattle.plane_lists.proofs.OneRingList.OneRingList.{Found, first-of, found, walk-of}
pub use Rattle.plane_lists.proofs.OneRingList.RingsOfWalk.{next-within, walk-within}
pub use Rattle.plane_lists.proofs.OneRingList.SameNests.{encloses-same, inner-same, outer-same}
pub use Rattle.plane_lists.proofs.OneRingList.Sees.{clear-of, decide, walk_sees, way-from}
pub use Rattle.plane_lists.proofs.OneRingList.Uncrossed.{rings-uncrossed}
