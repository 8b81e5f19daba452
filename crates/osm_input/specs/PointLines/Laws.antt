-- Each text has either points or exactly one first bad line, as statements.
use Rattle.std.specs.Prelude.{◌≡◌, ◌⊎◌, ℕ, List}
use Rattle.osm_lattice.specs.declared.loc.Loc.{Loc}
use Rattle.osm_input.specs.PointLines.Points.{ArePoints, IsBadPoint}

-- a text has points, or a first bad line
abbrev pub TextsHavePointsOrABadLine : Type 0
TextsHavePointsOrABadLine = (text : List ℕ) → ((points : List Loc) × ArePoints text points) ⊎ ((number : ℕ) × IsBadPoint text number)

-- no text has both
abbrev pub PointsExcludeABadLine : Type 0
PointsExcludeABadLine = (text : List ℕ) (points : List Loc) (number : ℕ) → ArePoints text points → IsBadPoint text number → ⊥

-- it has at most one first bad line
abbrev pub FirstBadLineIsOne : Type 0
FirstBadLineIsOne = (text : List ℕ) (m n : ℕ) → IsBadPoint text m → IsBadPoint text n → m ≡ n
