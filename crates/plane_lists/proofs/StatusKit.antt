-- The edges that span a height, in their order: what crates above take of the lemmas on them.
pub use Rattle.plane_lists.proofs.Statuses.Fronts.{all_is_front, front_is_all, next_enters, next_passes, to_end}
pub use Rattle.plane_lists.proofs.Statuses.Leaving.{all_are_taken_out, all_remain, in-front, next_is_taken_out, those_that_stay_remain}
pub use Rattle.plane_lists.proofs.Statuses.Statuses.{climbs, counts, fits, nearest, parted, present, rises-among}
