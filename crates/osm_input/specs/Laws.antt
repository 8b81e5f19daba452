-- Which lines of an input count, as a statement.
use Rattle.std.specs.Prelude.{◌≡◌, ◌<◌, ◌≤◌, ℕ, List, length, take}
use Rattle.opl_reader.specs.Lines.{lines_of}
use Rattle.osm_input.specs.Lines.{lines_begun}
use Rattle.osm_input.specs.Reading.{lines_counted}

-- All lines count if the input keeps the limit; those of its prefix count if it exceeds the limit.
pub record LimitParts (limit longest : ℕ) (bytes : List ℕ) : Type 0 where
  pub within : length bytes ≤ limit → lines_counted limit longest bytes ≡ lines_of bytes
  pub beyond : limit < length bytes → lines_counted limit longest bytes ≡ lines_begun longest (take limit bytes)

abbrev pub LinesCount : Type 0
LinesCount = (limit longest : ℕ) (bytes : List ℕ) → LimitParts limit longest bytes
