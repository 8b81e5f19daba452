use Rattle.std.proofs.Common.{take, ◌-◌, ◌≡◌}
use Rattle.lists.specs.Rising.{count_of}
use Rattle.osm_lattice.specs.declared.seg.Seg.{Seg}
use Rattle.osm_lattice.specs.Seg.{seg_cmp}
use Rattle.osm_segments.proofs.counts.equal_to_last.Given as goal

abbrev pub invariant-loop-place : goal.invariant-loop-place
invariant-loop-place l = (s : Seg) → count_of seg_cmp s l.equal.items ≡ count_of seg_cmp s (take l.place l.sorted) - 1
