-- Rings of which exactly one is outer. No public contract cites this.
use Rattle.std.specs.Prelude.{List, Option, [], get_or, length, nat_eq, not, suc, zero, ℕ, ◌<◌, ◌∷◌, ◌≢◌, ◌≤◌}
use Rattle.std.specs.Bool.{then_some}
use Rattle.osm_geom.specs.declared.edge.Edge.{Edge}
use Rattle.osm_nest.specs.Outer.{IsInner, IsOuter}

-- none of the rings from a place up to another is outer
abbrev pub AreInnerBetween : List (List Edge) → ℕ → ℕ → Type 0
AreInnerBetween rs from to = (k : ℕ) → from ≤ k → k < to → IsInner (get_or rs k [])

-- the first outer ring is at the place
pub record IsFirstOuter (rs : List (List Edge)) (place : ℕ) : Type 0 where
  pub inside : place < length rs
  pub outer : IsOuter (get_or rs place [])
  pub before : AreInnerBetween rs 0 place

-- the ring at the place is outer, and all others are inner
pub record IsOnlyOuter (rs : List (List Edge)) (place : ℕ) : Type 0 where
  pub inside : place < length rs
  pub outer : IsOuter (get_or rs place [])
  pub others : (k : ℕ) → k < length rs → k ≢ place → IsInner (get_or rs k [])

-- what encloses the ring at a place
abbrev pub encloser_under : ℕ → ℕ → Option ℕ
encloser_under only place = then_some (not (nat_eq place only)) only

-- the same for this many places from one on
abbrev pub enclosers_under : ℕ → ℕ → ℕ → List (Option ℕ)
enclosers_under only from zero = []
enclosers_under only from (suc n) = encloser_under only from ∷ enclosers_under only (suc from) n
