-- The laws of conflicts, as statements.
use Rattle.std.specs.Prelude.{◌≡◌}
use Rattle.osm_lattice.specs.declared.seg.Seg.{Seg}
use Rattle.osm_lattice.specs.Conflict.{conflict_of}

-- a conflict doesn't depend on which segment is named first
abbrev pub ConflictIsSymmetric : Type 0
ConflictIsSymmetric = (s t : Seg) → conflict_of s t ≡ conflict_of t s
