use Rattle.std.proofs.Common.{get_or, ℕ, ◌<◌, ◌≤◌}
use Rattle.osm_lattice.specs.declared.seg.Seg.{Seg}
use Rattle.osm_segments.specs.Sweep.{IsNotBefore}
use Rattle.osm_segments.proofs.sweep.trying.latest_end.Given as goal

abbrev pub invariant-loop-j : goal.invariant-loop-j
invariant-loop-j l = (j : ℕ) (d : Seg) → l.from ≤ j → j < l.j → IsNotBefore (get_or l.segs j d).b l.latest
