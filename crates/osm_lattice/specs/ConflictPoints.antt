-- What the conflict of two segments implies about the points that they share, as statements.
use Rattle.std.specs.Prelude.{◌≡◌, ◌≢◌, ◌⊎◌, ◌↔◌, Some, None, pos, ◌*ℤ◌}
use Rattle.osm_lattice.specs.declared.loc.Loc.{Loc}
use Rattle.osm_lattice.specs.declared.seg.Seg.{Seg}
use Rattle.osm_lattice.specs.declared.frac.Frac.{Frac}
use Rattle.osm_lattice.specs.declared.conflicts.Kind.TheVariants.{Crossing, Overlap}
use Rattle.osm_lattice.specs.Conflict.{conflict_of}
use Rattle.osm_lattice.specs.Meeting.{CommonPoint}

-- the point (x, y) is p
abbrev pub IsAt : Loc → Frac → Frac → Type 0
IsAt p x y = (x.num ≡ p.x *ℤ pos x.den) × (y.num ≡ p.y *ℤ pos y.den)

-- the point (x, y) is an end of s
abbrev pub IsEndOf : Seg → Frac → Frac → Type 0
IsEndOf s x y = IsAt s.a x y ⊎ IsAt s.b x y

abbrev pub IsEndOfBoth : (s t : Seg) → CommonPoint s t → Type 0
IsEndOfBoth s t p = IsEndOf s p.x p.y × IsEndOf t p.x p.y

abbrev pub AreSame : (s t : Seg) → CommonPoint s t → CommonPoint s t → Type 0
AreSame s t p q = (p.x ≡ q.x) × (p.y ≡ q.y)

-- s and t share one point alone, which is not an end of both
pub record OnePoint (s t : Seg) : Type 0 where
  pub point : CommonPoint s t
  pub not_end_of_both : IsEndOfBoth s t point → ⊥
  pub alone : (p : CommonPoint s t) → AreSame s t p point

-- s and t share more than one point
pub record ManyPoints (s t : Seg) : Type 0 where
  pub first : CommonPoint s t
  pub second : CommonPoint s t
  pub apart : AreSame s t first second → ⊥

-- two segments cross exactly if they share one such point
abbrev pub CrossingHasOnePoint : Type 0
CrossingHasOnePoint = (s t : Seg) → (conflict_of s t ≡ Some Crossing) ↔ OnePoint s t

-- they overlap exactly if they differ and share more than one point
abbrev pub OverlapHasManyPoints : Type 0
OverlapHasManyPoints = (s t : Seg) → (conflict_of s t ≡ Some Overlap) ↔ ((s ≢ t) × ManyPoints s t)

-- two different ones have no conflict exactly if each point that they share is an end of both
abbrev pub ClearSegmentsMeetAtEnds : Type 0
ClearSegmentsMeetAtEnds =
    (s t : Seg) → s ≢ t → (conflict_of s t ≡ None) ↔ ((p : CommonPoint s t) → IsEndOfBoth s t p)
