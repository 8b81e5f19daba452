-- Lists of edges and what winds round a point: what crates above take of the lemmas on them.
pub use Rattle.plane_lists.proofs.Lists.AlongSegment.{along_from, off_all, parity_from_both_ends}
pub use Rattle.plane_lists.proofs.Lists.Anchors.{all-right, anchor_one, anchor_right, anchor_runs, anchor_span, cross-west, leftmost_anchor, leftmost_of, ok, ok-either-by, ok-self, ok_by, ok_chain, ring_by_anchor, some-anchor, some_odd, west, west-direction, west-none}
pub use Rattle.plane_lists.proofs.Lists.Balance.{chain_signs, crossed, crossed-at, degree-even, dot-at, either_2, either_computes, leaves, length-total, no-loop, out_count, way, way-direction, ways_apart}
pub use Rattle.plane_lists.proofs.Lists.ConflictFree.{clear_pair, off_away, rising_in, segment-rises, split_off}
pub use Rattle.plane_lists.proofs.Lists.Independence.{IsOffSeen, count-is, even-at-ends, total-ends, parity_independent, winding_independent}
pub use Rattle.plane_lists.proofs.Lists.Levels.{crossing-order, crossing_by, crossings-right, e-tall, e-view, from_e, kept-by, left-span, low-by, off_not_null, right-level, right_apart, right_left, signed_parity, spanning_runs, to_right}
pub use Rattle.plane_lists.proofs.Lists.OddSides.{covers-crossings, differ-parity, runs_from, runs_to, same-parity, share, share-is, spokes-is}
pub use Rattle.plane_lists.proofs.Lists.OppositeEnds.{beyond, crossings-away}
pub use Rattle.plane_lists.proofs.Lists.Paths.{path-join, path-split}
pub use Rattle.plane_lists.proofs.Lists.Ranks.{First, bit-less, bit-true, even-is, even-next, first_exists, odd-is, odds}
pub use Rattle.plane_lists.proofs.Lists.RingCounts.{closed-balanced, once-most, path-ends, reversed-crossings, ring-even, segments-crossings, total-member}
pub use Rattle.plane_lists.proofs.Lists.RoundNode.{parity_round_node}
pub use Rattle.plane_lists.proofs.Lists.ScaledLists.{direct-by, even_scaled, others-scaled, plain_scaled, rational_count}
pub use Rattle.plane_lists.proofs.Lists.ScaledSides.{all-off-back, all-off-scaled, balanced-scaled, balanced-total, count-scaled, counted-both-ways, edges-turned, edges-twice, segment-scaled, segments-scaled, sided-back, sided-scaled, winding-scaled}
pub use Rattle.plane_lists.proofs.Lists.Shifts.{sub-plus, sub-set, sub-sign, sub_sign}
pub use Rattle.plane_lists.proofs.Lists.SidedLists.{directed_sided, segment-direct-by, sided-even, sided_direct}
pub use Rattle.plane_lists.proofs.Lists.Sums.{same-total}
