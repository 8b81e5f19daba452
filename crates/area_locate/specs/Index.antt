-- Stretches of points with their points in order of x. No public contract cites it.
use Rattle.std.specs.Prelude.{All, Contains, List, false, length, slice_index_or, ℕ, ◌<◌, ◌≡◌, ◌≤◌}
use lib.Signed.{lt_z}
use Rattle.osm_lattice.specs.declared.loc.Loc.{Loc}
use Rattle.area_locate.specs.declared.index.Level.{Level}
use Rattle.area_locate.specs.declared.index.PointIndex.{PointIndex}
use Rattle.area_locate.specs.declared.stretch.Entry.{Entry}
use Rattle.area_locate.specs.declared.stretch.Stretch.{Stretch}

-- the entry tells the x of a point, and where it stands
pub record IsPointEntry (points : List Loc) (entry : Entry) : Type 0 where
  pub inside : entry.place < length points
  pub x : (d : Loc) → entry.x ≡ (slice_index_or points entry.place d).x

-- the place is the first one or a later one, before the end
abbrev pub IsFromTo : ℕ → ℕ → ℕ → Type 0
IsFromTo first end i = (first ≤ i) × (i < end)

-- one of the entries is of this place
abbrev pub HasEntry : List Entry → ℕ → Type 0
HasEntry entries i = (entry : Entry) × Contains entries entry × (entry.place ≡ i)

-- entries of points, with one for each place from the first to the end
pub record AreEntries (points : List Loc) (first end : ℕ) (entries : List Entry) : Type 0 where
  pub right : All (IsPointEntry points) entries
  pub whole : (i : ℕ) → IsFromTo first end i → HasEntry entries i

-- no entry has a lower x than one before it
abbrev pub XNeverFalls : List Entry → Type 0
XNeverFalls entries = (i j : ℕ) (d : Entry) → i ≤ j → j < length entries → lt_z (slice_index_or entries j d).x (slice_index_or entries i d).x ≡ false

-- the entries of a stretch of points, in order of x
pub record IsStretch (points : List Loc) (stretch : Stretch) : Type 0 where
  pub whole : AreEntries points stretch.first stretch.end stretch.by_x.items
  pub rising : XNeverFalls stretch.by_x.items

-- such a stretch, which begins at one place and ends by another
pub record BeginsAt (points : List Loc) (place to : ℕ) (stretch : Stretch) : Type 0 where
  pub right : IsStretch points stretch
  pub first : stretch.first ≡ place
  pub long : place < stretch.end
  pub end : stretch.end ≤ to

-- such stretches
abbrev pub IsPointLevel : List Loc → Level → Type 0
IsPointLevel points level = All (IsStretch points) level.stretches.items

-- such levels
abbrev pub IsIndex : List Loc → PointIndex → Type 0
IsIndex points index = All (IsPointLevel points) index.levels.items
