-- The points of a text, and its first bad line.
use Rattle.std.specs.Prelude.{◌≡◌, ◌+◌, ℕ, true, false, All, List, ◌∷◌, ◌++◌, length}
use Rattle.std.specs.List.{filter_map, slice_split}
use Rattle.osm_lattice.specs.declared.loc.Loc.{Loc}
use Rattle.opl_reader.specs.Lines.{is_newline}
use Rattle.osm_input.specs.PointLines.Lines.{is_bad, point_told}

-- The lines of a text: its bytes, split at LF. Text after the last LF is a line too, which is passed over if it is empty.
abbrev pub lines_parted : List ℕ → List (List ℕ)
lines_parted text = slice_split is_newline text

-- No line is bad, and these are the points that the lines tell, in order.
pub record ArePoints (text : List ℕ) (points : List Loc) : Type 0 where
  pub good : All (λ line. is_bad line ≡ false) (lines_parted text)
  pub told : points ≡ filter_map point_told (lines_parted text)

-- The first bad line has this number, counted from 1.
pub record IsBadPoint (text : List ℕ) (number : ℕ) : Type 0 where
  pub before : List (List ℕ)
  pub line : List ℕ
  pub after : List (List ℕ)
  pub parted : lines_parted text ≡ before ++ line ∷ after
  pub counted : number ≡ length before + 1
  pub good_before : All (λ earlier. is_bad earlier ≡ false) before
  pub bad : is_bad line ≡ true
