use Rattle.std.proofs.Common.{Contains, length, take, ◌+◌, ◌<◌, ◌≡◌, ◌⊎◌}
use Rattle.osm_segments.specs.declared.ranges.strips.SegAt.{SegAt}
use Rattle.osm_segments.specs.Ranges.{StandInRow}
use Rattle.osm_segments.proofs.ranges.rows.row_of.Given as goal

abbrev pub invariant-loop-s : goal.invariant-loop-s
invariant-loop-s l =
    StandInRow l.strip l.row.items
    × ((s : SegAt) → Contains (take l.s-index l.all) s → Contains l.row.items s ⊎ Contains l.rest.items s)
    × (length l.row.items + length l.rest.items ≡ l.s-index)
    × (0 < l.s-index → 0 < length l.row.items)
