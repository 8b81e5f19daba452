-- Points, vectors, edges and their crossings: what crates above take of the lemmas on them.
pub use Rattle.plane.proofs.Conflicts.{clear_back, clear_differs, clear_misses, clear_off_from, clear_off_to, conflict_by, conflicts-by, cross_by, crosses-by, crosses_reversed, match-by, overlap_by, overlaps-by, overlaps_reversed, self_conflicts}
pub use Rattle.plane.proofs.Edges.{edge_of, ends_at-from, ends_at-to, same_edge-refl, same_edge-true, same_edge_by}
pub use Rattle.plane.proofs.FreeSegments.{Sound, crossings-by, crossings_0, crossings_seen, down_compute, down_sound, inner_point_off, misses_reversed, none_here, off_when_missed, past_edge, up_compute, up_sound}
pub use Rattle.plane.proofs.Heights.{at-first-from, at-first-to, at-second-from, at-second-to, change-agrees, crossed-by, distance-change, no_swap, order_persists, right_chain, right_either, right_itself, right_of, step_of, tall-by, zero-end, zero-part}
pub use Rattle.plane.proofs.OnEdges.{off_by-plus, on-between, step-direction}
pub use Rattle.plane.proofs.PointOrder.{line-order, line-order-up, order-null, order-reversed, order-self, order-self-null, order-sum, rising-direction}
pub use Rattle.plane.proofs.Points.{same_point-refl, same_point-true, same_vector, vector_of}
pub use Rattle.plane.proofs.Products.{cross-agree, cross-chain, cross-direction, cross-from-here, cross-here, cross-negated, cross-reversed, cross-self, cross2, direction-back, direction-from, dot-chain, dot-east, dot-here, dot-reversed, dot-swap, dot-there_back, dot2, frame-agree, frame-dot-agree, from_to2, lift2, orient-round, plucker-agree, plucker-dot-agree, reversed-side, side-moves, side-there}
pub use Rattle.plane.proofs.RayCrossings.{at-end-by, cross-east, crossing-bit, crossings-left, crossings_at, down_seen, east-direction, east-side, left-signs, level-side, not-left, off-turned, off_by-no, off_by-set, rightward_crossing, rise-y, sector-east, up_seen}
pub use Rattle.plane.proofs.Scaling.{conflicts-scaled, cross-scaled, cross-times, crosses-scaled, crossing-scaled, dot-both, dot-times, edge-scaled, from_to-scaled, left-scaled, level-scaled, minus-sign, order-scaled, orient-scaled, point-back, point-once, point-scaled, point-turned, point-twice, right-scaled, sector-seen-scaled, span-scaled, times-turned}
pub use Rattle.plane.proofs.Sectors.{here-outside, opposite-in, own-out, sector_lemma}
pub use Rattle.plane.proofs.Views.{View, cross-weigh, dot-weigh, mid, mid-first, mid-last, mid_reversed, view_at, view_mid, view_weighted, weigh}
