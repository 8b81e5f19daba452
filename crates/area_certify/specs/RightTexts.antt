-- Texts without a wrong line, as the whole of what an export writes.
use Rattle.std.specs.Prelude.{◌≡◌, ◌↔◌, ◌+◌, ◌++◌, ℕ, List, [], ◌∷◌, Option}
use Rattle.osm_elements.specs.declared.object.Object.{Object}
use Rattle.osm_elements.specs.declared.object.ObjectRef.{ObjectRef}
use Rattle.osm_objects.specs.Candidates.{candidates}
use Rattle.osm_objects.specs.declared.choice.Choice.{Choice}
use Rattle.osm_objects.specs.declared.area.UniqueId.{UniqueId}
use Rattle.area_certify.specs.Areas.{AreThoseWithAreas}
use Rattle.area_certify.specs.FirstWrong.{HasNoWrongLine, IsFeature}

-- the features of these candidates, one after the other, the first with this counter
abbrev pub AreFeatures : Option UniqueId → List Object → ℕ → List ObjectRef → List ℕ → Type 0
AreFeatures ids objects counter [] text = text ≡ []
AreFeatures ids objects counter (candidate ∷ areas) text =
    (feature rest : List ℕ) × IsFeature ids objects counter candidate feature × AreFeatures ids objects (counter + 1) areas rest × (text ≡ feature ++ rest)

-- the text is the features of the candidates with an area, in order
abbrev pub IsRightText : Choice → Option UniqueId → List Object → List ℕ → Type 0
IsRightText choice ids objects text =
    (areas : List ObjectRef) × AreThoseWithAreas objects (candidates choice objects) areas × AreFeatures ids objects 1 areas text

-- ---- laws

-- a text has no wrong line exactly if it is these features
abbrev pub RightTextsAreFeatures : Type 0
RightTextsAreFeatures =
    (choice : Choice) (ids : Option UniqueId) (objects : List Object) (text : List ℕ) → HasNoWrongLine choice ids objects text ↔ IsRightText choice ids objects text

-- for all objects and settings there is such a text
abbrev pub RightTextsExist : Type 0
RightTextsExist = (choice : Choice) (ids : Option UniqueId) (objects : List Object) → (text : List ℕ) × HasNoWrongLine choice ids objects text
