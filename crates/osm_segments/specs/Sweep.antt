-- One step of a sweep upwards over segments.
-- It says where a segment is among those that span the point at which it begins, and which segments are neighbours once it
-- has ended. Public contracts cite only `EndsRise` and `AreByEnds`.
use Rattle.std.specs.Prelude.{Bool, Contains, IsPermutation, List, None, insert, length, not, remove, slice_index_or, true, ℕ, ◌&&◌, ◌+◌, ◌-◌, ◌<◌, ◌||◌, ◌≡◌, ◌≤◌, ◌⊎◌}
use Rattle.plane.specs.Order.{order}
use Rattle.plane.specs.Sign.{is_minus}
use Rattle.osm_lattice.specs.declared.loc.Loc.{Loc}
use Rattle.osm_lattice.specs.declared.seg.Seg.{Seg}
use Rattle.osm_lattice.specs.Conflict.{conflict_of}
use Rattle.osm_lattice.specs.Line.{is_left_of_line, is_right_of_line}
use Rattle.osm_lattice.specs.Loc.{vector_of}

-- t is right of s at the lower end of s, or s begins on its line and turns left of it
abbrev pub lies_right : Seg → Seg → Bool
lies_right s t = is_left_of_line s.a t || (not (is_right_of_line s.a t) && is_left_of_line s.b t)

abbrev pub lies_left : Seg → Seg → Bool
lies_left s t = is_right_of_line s.a t || (not (is_left_of_line s.a t) && is_right_of_line s.b t)

abbrev pub FitsBefore : Seg → Seg → Type 0
FitsBefore s t = (conflict_of t s ≡ None) × (lies_left s t ≡ true)

abbrev pub FitsAfter : Seg → Seg → Type 0
FitsAfter s t = (conflict_of s t ≡ None) × (lies_right s t ≡ true)

-- s was put between two that fit
pub record IsPutBetween (s : Seg) (old new : List Seg) : Type 0 where
  pub place : ℕ
  pub within : place ≤ length old
  pub before : 0 < place → FitsBefore s (slice_index_or old (place - 1) s)
  pub after : place < length old → FitsAfter s (slice_index_or old place s)
  pub is : new ≡ insert old place s

-- s was taken out, and its two neighbours don't conflict
pub record HasLeft (s : Seg) (old new : List Seg) : Type 0 where
  pub place : ℕ
  pub inside : place < length old
  pub at : slice_index_or old place s ≡ s
  pub closes : (d : Seg) → 0 < place → place + 1 < length old → conflict_of (slice_index_or old (place - 1) d) (slice_index_or old (place + 1) d) ≡ None
  pub is : new ≡ remove old place

-- s was taken out, and t was put between its two neighbours
pub record IsFollowed (s t : Seg) (old new : List Seg) : Type 0 where
  pub between : List Seg
  pub left : HasLeft s old between
  pub entered : IsPutBetween t between new

-- q isn't before p
abbrev pub IsNotBefore : Loc → Loc → Type 0
IsNotBefore p q = not (is_minus (order (vector_of p) (vector_of q))) ≡ true

-- no upper end comes before that of an earlier one
abbrev pub EndsRise : List Seg → Type 0
EndsRise ends = (i j : ℕ) (d : Seg) → i ≤ j → j < length ends → IsNotBefore (slice_index_or ends i d).b (slice_index_or ends j d).b

-- the segments in the order of their upper ends
pub record AreByEnds (segs ends : List Seg) : Type 0 where
  pub moved : IsPermutation segs ends
  pub rise : EndsRise ends

-- of each two segments of a list that conflict, one is among these
abbrev pub AreInTheWay : List Seg → List Seg → Type 0
AreInTheWay segs aside = (s t : Seg) → Contains segs s → Contains segs t → (conflict_of s t ≡ None) ⊎ (Contains aside s ⊎ Contains aside t)
