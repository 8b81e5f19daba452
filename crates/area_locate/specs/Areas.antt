-- Words of private clauses: areas by their outlines, and the hits among them. No public contract cites it.
use Rattle.std.specs.Prelude.{false, true, ◌≡◌, ◌⊎◌, cond, List, [], ◌∷◌, ◌++◌, map}
use Rattle.std.specs.List.{flat_map}
use Rattle.osm_lattice.specs.declared.loc.Loc.{Loc}
use Rattle.osm_lattice.specs.declared.seg.Seg.{Seg}
use Rattle.osm_segments.specs.Counts.{AreSurvivors}
use Rattle.osm_sides.specs.declared.places.Place.{Place}
use Rattle.osm_sides.specs.declared.places.Place.TheVariants.{Off, In, On}
use Rattle.osm_sides.specs.PointPlaces.{place_among}
use Rattle.osm_elements.specs.declared.object.Object.{Object}
use Rattle.osm_elements.specs.declared.object.ObjectRef.{ObjectRef}
use Rattle.osm_area.specs.Segments.{candidate_segments}
use Rattle.osm_area.specs.Sound.{IsSound}
use Rattle.area_locate.specs.declared.envelope.Envelope.{Envelope}
use Rattle.area_locate.specs.declared.found.Found.{Found}
use Rattle.area_locate.specs.declared.found.Hit.{Hit}
use Rattle.area_locate.specs.Envelopes.{Encloses, lacks}

-- ---- areas
-- whose it is, a rectangle that it lies in, and its sides
pub record Area : Type 0 where
  pub of : ObjectRef
  pub envelope : Envelope
  pub sides : List Seg

-- the candidate has an area, whose sides are the segments that survive
pub record IsAreaIn (objects : List Object) (candidate : ObjectRef) (area : Area) : Type 0 where
  pub of : area.of ≡ candidate
  pub sound : IsSound objects candidate
  pub survive : AreSurvivors (candidate_segments objects candidate) area.sides
  pub within : Encloses area.envelope area.sides

-- the areas of candidates, in order
abbrev pub AreAreas : List Object → List ObjectRef → List Area → Type 0
AreAreas objects [] areas = areas ≡ []
AreAreas objects (candidate ∷ candidates) areas =
    ((area : Area) × IsAreaIn objects candidate area × (others : List Area) × AreAreas objects candidates others × (areas ≡ area ∷ others))
    ⊎ ((IsSound objects candidate → ⊥) × AreAreas objects candidates areas)

-- ---- hits
-- the hit that a place tells
abbrev pub hits_by : ObjectRef → Place → List Hit
hits_by candidate Off = []
hits_by candidate In = record { of = candidate; on = false } ∷ []
hits_by candidate On = record { of = candidate; on = true } ∷ []

-- that of an area
abbrev pub hits_of : Loc → Area → List Hit
hits_of p area = cond (lacks area.envelope p) [] (hits_by area.of (place_among p area.sides))

-- those of all areas
abbrev pub all_hits : List Area → Loc → List Hit
all_hits areas p = flat_map (hits_of p) areas

-- the entry of a location by its hits
abbrev pub found_as : (Loc → List Hit) → Loc → Found
found_as hits p = record { at = p; hits = hits p }

-- each of the points has the hits of the areas of these candidates
abbrev pub HaveHits : List Object → List ObjectRef → List Loc → List (List Hit) → Type 0
HaveHits objects candidates points hits = (areas : List Area) × AreAreas objects candidates areas × (hits ≡ map (all_hits areas) points)

-- the points have further hits besides those that they had
abbrev pub HaveFurther : (Loc → List Hit) → List Loc → List (List Hit) → List (List Hit) → Type 0
HaveFurther more points old new = (f : Loc → List Hit) → old ≡ map f points → new ≡ map (λ p. f p ++ more p) points
