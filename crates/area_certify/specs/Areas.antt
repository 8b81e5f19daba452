-- The candidates that have an area.
use Rattle.std.specs.Prelude.{◌≡◌, ◌⊎◌, List, [], ◌∷◌}
use Rattle.osm_elements.specs.declared.object.Object.{Object}
use Rattle.osm_elements.specs.declared.object.ObjectRef.{ObjectRef}
use Rattle.osm_area.specs.Sound.{IsSound}

-- the items of a list for which P holds, in order
abbrev pub AreThose : {X : Type 0} → (X → Type 0) → List X → List X → Type 0
AreThose P [] those = those ≡ []
AreThose {X} P (x ∷ xs) those =
    (P x × (others : List X) × AreThose P xs others × (those ≡ x ∷ others)) ⊎ ((P x → ⊥) × AreThose P xs those)

-- A candidate has an area if it is sound: nothing that it names is missing, and some of its segments survive.
-- No two of the survivors conflict, and an even number of them meets at each location.
abbrev pub AreThoseWithAreas : List Object → List ObjectRef → List ObjectRef → Type 0
AreThoseWithAreas objects candidates areas = AreThose (IsSound objects) candidates areas
