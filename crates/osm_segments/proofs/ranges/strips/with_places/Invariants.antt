use Rattle.std.proofs.Common.{get_or, length, ℕ, ◌<◌, ◌≡◌}
use Rattle.osm_segments.specs.declared.ranges.strips.SegAt.{SegAt}
use Rattle.osm_segments.proofs.ranges.strips.with_places.Given as goal

abbrev pub invariant-loop-i : goal.invariant-loop-i
invariant-loop-i l = (length l.all.items ≡ l.i) × ((k : ℕ) (d : SegAt) → k < l.i → get_or l.all.items k d ≡ record { seg = get_or l.segs k d.seg; place = k })
