-- The law of the points in which segments cross, as a statement.
use Rattle.std.specs.Prelude.{◌≡◌, Some}
use Rattle.osm_lattice.specs.declared.seg.Seg.{Seg}
use Rattle.osm_lattice.specs.declared.conflicts.Kind.TheVariants.{Crossing}
use Rattle.osm_lattice.specs.Conflict.{conflict_of}
use Rattle.osm_lattice.specs.Meeting.{CommonPoint}

-- two segments that cross have a point in common, with coordinates in lowest terms
abbrev pub CrossingSegmentsMeet : Type 0
CrossingSegmentsMeet = (s t : Seg) → conflict_of s t ≡ Some Crossing → CommonPoint s t
