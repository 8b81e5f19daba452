-- Which of some points lie in a rectangle. No public contract cites it.
use Rattle.std.specs.Prelude.{All, Contains, List, cond, false, length, nat_eq, slice_index_or, ℕ, [], ◌++◌, ◌<◌, ◌∷◌, ◌≡◌}
use Rattle.std.specs.List.Sorted.{IsStrictlyIncreasing}
use Rattle.osm_lattice.specs.declared.loc.Loc.{Loc}
use Rattle.osm_sides.specs.declared.places.Place.{Place}
use Rattle.osm_elements.specs.declared.object.ObjectRef.{ObjectRef}
use Rattle.area_locate.specs.declared.envelope.Envelope.{Envelope}
use Rattle.area_locate.specs.declared.found.Hit.{Hit}
use Rattle.area_locate.specs.Areas.{hits_by}
use Rattle.area_locate.specs.Envelopes.{lacks}

-- the place of a point that lies in the rectangle
pub record IsPlaceWithin (envelope : Envelope) (points : List Loc) (i : ℕ) : Type 0 where
  pub inside : i < length points
  pub within : (d : Loc) → lacks envelope (slice_index_or points i d) ≡ false

-- the places of all points that lie in it, in order
pub record AreAllWithin (envelope : Envelope) (points : List Loc) (places : List ℕ) : Type 0 where
  pub rising : IsStrictlyIncreasing places
  pub right : All (IsPlaceWithin envelope points) places
  pub whole : (i : ℕ) → IsPlaceWithin envelope points i → Contains places i

-- further places are found: of points in the rectangle alone, and among some places all of these
pub record AddsWithin (envelope : Envelope) (points : List Loc) (among : ℕ → Type 0) (old new : List ℕ) : Type 0 where
  pub kept : (i : ℕ) → Contains old i → Contains new i
  pub within : All (IsPlaceWithin envelope points) old → All (IsPlaceWithin envelope points) new
  pub whole : (i : ℕ) → among i → IsPlaceWithin envelope points i → Contains new i

-- the hits that the j-th point gets where the points at these places lie so
abbrev pub hits_at : ObjectRef → ℕ → List ℕ → List Place → List Hit
hits_at of j [] places = []
hits_at of j (i ∷ near) [] = []
hits_at of j (i ∷ near) (place ∷ places) = cond (nat_eq i j) (hits_by of place) [] ++ hits_at of j near places
