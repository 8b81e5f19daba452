-- Words of private clauses on the lines of a text of points. No public contract cites them.
use Rattle.std.specs.Prelude.{◌≡◌, ◌+◌, ◌<◌, ℕ, true, false, List, [], ◌∷◌, length, Option, Some, None}
use Rattle.opl_reader.specs.LineReading.{is_separator}
use Rattle.osm_input.specs.declared.points.line.Told.{Told}
use Rattle.osm_input.specs.declared.points.line.Told.TheVariants.{Nothing, Point, Bad}
use Rattle.osm_input.specs.PointLines.Lines.{is_empty_or_comment, location_in_words, words_in, words_of}
use Rattle.osm_input.specs.PointLines.Points.{lines_parted}

-- ---- one line

-- empty, or its first byte is no separator
abbrev pub BeginsWord : List ℕ → Type 0
BeginsWord [] = Unit {0}
BeginsWord (byte ∷ text) = is_separator byte ≡ false

-- its first word, which isn't empty, and what is left
pub record IsNextWord (text word rest : List ℕ) : Type 0 where
  pub some : 0 < length word
  pub words : words_in text ≡ word ∷ words_in rest

-- by its words
abbrev pub IsToldBy : List (List ℕ) → Told → Type 0
IsToldBy words Nothing = is_empty_or_comment words ≡ true
IsToldBy words (Point point) = (is_empty_or_comment words ≡ false) × (location_in_words words ≡ Some point)
IsToldBy words Bad = (is_empty_or_comment words ≡ false) × (location_in_words words ≡ None)

-- what a line tells
abbrev pub LineTells : List ℕ → Told → Type 0
LineTells line told = IsToldBy (words_of line) told

-- ---- all lines

-- the lines of what is left
abbrev pub lines_left : Option (List ℕ) → List (List ℕ)
lines_left None = []
lines_left (Some rest) = lines_parted rest

-- how long it is, with the LF before it
abbrev pub len_left : Option (List ℕ) → ℕ
len_left None = 0
len_left (Some rest) = length rest + 1
