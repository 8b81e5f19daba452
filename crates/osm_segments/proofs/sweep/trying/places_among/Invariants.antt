use Rattle.std.proofs.Common.{Contains, get_or, ℕ, ◌<◌}
use Rattle.osm_lattice.specs.declared.seg.Seg.{Seg}
use Rattle.osm_segments.proofs.sweep.trying.places_among.Given as goal

abbrev pub invariant-loop-i : goal.invariant-loop-i
invariant-loop-i l = (i : ℕ) (d : Seg) → i < l.i → Contains l.aside (get_or l.segs i d) → Contains l.few.items i
