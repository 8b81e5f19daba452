-- Rings, their order and polygons: what crates above take of the lemmas on them.
pub use Rattle.plane_lists.proofs.Rings.CoveredEdges.{IsClearOfAll, beside, in-from-end}
pub use Rattle.plane_lists.proofs.Rings.DirectEnclosure.{edges-out-by, encloses_law, in-edges-out}
pub use Rattle.plane_lists.proofs.Rings.DirectRings.{direct-by, encloser_exists, encloser_one, inner-out, is_outer_by, left_neighbour_alike, left_neighbour_encloses, one-ring-by, outer-in, outer-out, pairs-unmap, ring-plain, rings-anchors, rings-tell, same_or_clear}
pub use Rattle.plane_lists.proofs.Rings.LeftNeighbours.{round-nearest}
pub use Rattle.plane_lists.proofs.Rings.Nearest.{beyond-order, beyond-right, beyond-span, bit-both, through}
pub use Rattle.plane_lists.proofs.Rings.Nests.{and-make, clear-of, clear_rings, encloses-in, encloses-not, encloses_same, has-in, has-not-by, in-edges, in-has, in_edges, not-both, odd-bit, part, same-ring, total-edges}
pub use Rattle.plane_lists.proofs.Rings.OuterTests.{IsDirectBy}
pub use Rattle.plane_lists.proofs.Rings.Parts.{Once, differ, once-apart, plain-of, reversed-by, same-back, same-in, same-once, same-winding, sided-once, sided_same}
pub use Rattle.plane_lists.proofs.Rings.Pieces.{append-assoc, last-in, piece_walk, pieces_same, ring_list}
pub use Rattle.plane_lists.proofs.Rings.RingLists.{edges-segments, nest-plain, outer_down, pairs-of, ring_list_nest, runs_up_as}
pub use Rattle.plane_lists.proofs.Rings.Rotations.{ring-turn, ring_rotated, rotated-length, rotated-total, rotated-was}
pub use Rattle.plane_lists.proofs.Rings.ScaledRings.{anchor-scaled, polygons_cover_at_fractions, ring-scaled}
pub use Rattle.plane_lists.proofs.Rings.SidedPolygons.{polygon_sided}
pub use Rattle.plane_lists.proofs.Rings.Stacks.{stack_cut_all, stack_rings, walk_path}
pub use Rattle.plane_lists.proofs.Rings.Stretches.{Keeps, append-nil, follow-join, follow-left, follow-right, follow-weaker, last-append, stretch_same}
pub use Rattle.plane_lists.proofs.Rings.Successors.{F-none, clear-two, e-way, f-way, is_some, next_leaves, next_one, no-loop-segments, none-between, not-member, rise, sector-either, sector-first, sector-own, segment-back, segment-differs, segment-ends, segment-one, some-signs, sym-differs, unraised, way-segment}
pub use Rattle.plane_lists.proofs.Rings.Turns.{apart, next_alone, next_there, one-eqb, sector-chain, sector-one, sector-rest, zero-of}
pub use Rattle.plane_lists.proofs.Rings.Walks.{take, walks_there}
