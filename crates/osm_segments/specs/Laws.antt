-- The laws of what is found out about a list of segments, as statements.
use Rattle.std.specs.Prelude.{All, List, ◌≡◌}
use Rattle.osm_lattice.specs.declared.seg.Seg.{Seg}
use Rattle.osm_segments.specs.declared.counts.Repeat.{Repeat}
use Rattle.osm_segments.specs.Pairs.{IsPairOfItsKind, conflicts_of}
use Rattle.osm_segments.specs.Repeats.{AreRepeats}

-- segments have repeats, however much memory there is
abbrev pub RepeatsExist : Type 0
RepeatsExist = (segs : List Seg) → (repeats : List Repeat) × AreRepeats segs repeats

-- they have at most one list of repeats
abbrev pub RepeatsAreOne : Type 0
RepeatsAreOne = (segs : List Seg) (a b : List Repeat) → AreRepeats segs a → AreRepeats segs b → a ≡ b

-- each conflict among segments is of the kind that its two segments have
abbrev pub ConflictsHaveTheirKind : Type 0
ConflictsHaveTheirKind = (segs : List Seg) → All IsPairOfItsKind (conflicts_of segs)
