-- Why a text isn't read as points.
use Rattle.std.specs.Prelude.{ℕ, List}
use Rattle.osm_input.specs.declared.points.reading.PointsError.{PointsError}
use Rattle.osm_input.specs.declared.points.reading.PointsError.TheVariants.{BadPoint, OutOfMemory}
use Rattle.osm_input.specs.PointLines.Points.{IsBadPoint}

-- its first bad line, or that memory ran out
abbrev pub IsErrorOf : List ℕ → PointsError → Type 0
IsErrorOf text (BadPoint line) = IsBadPoint text line
IsErrorOf text OutOfMemory = Unit {0}
