-- Segments in another order.
use Rattle.std.proofs.Common.{sym}
use Rattle.std.specs.Ordering.{is_eq}
use Rattle.std.proofs.lemmas.List.Sorted.{list_any-IsPermutation}
use Rattle.osm_lattice.specs.Seg.{seg_cmp}
use Rattle.osm_area.proofs.ring_segments.in_order.Goals as goal

pub returns-clause-held : goal.returns-clause-held
returns-clause-held c s = sym (list_any-IsPermutation (λ t. is_eq (seg_cmp t s)) c.args.segs.items c.sort_unstable.new.self.items c.sort_unstable.ensures.permutation)
