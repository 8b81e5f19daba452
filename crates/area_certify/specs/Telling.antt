-- Words of private clauses on what a candidate says about the lines that are left. No public contract cites them.
use Rattle.std.specs.Prelude.{◌≡◌, ℕ, List, ◌∷◌, Option}
use Rattle.osm_elements.specs.declared.object.Object.{Object}
use Rattle.osm_elements.specs.declared.object.ObjectRef.{ObjectRef}
use Rattle.osm_area.specs.Sound.{IsSound}
use Rattle.osm_objects.specs.declared.area.UniqueId.{UniqueId}
use Rattle.area_certify.specs.declared.verdict.Verdict.{Verdict}
use Rattle.area_certify.specs.declared.verdict.Verdict.TheVariants.{Yes, No}
use Rattle.area_certify.specs.declared.telling.Told.{Told}
use Rattle.area_certify.specs.declared.telling.Told.TheVariants.{NoArea, Right, Wrong}
use Rattle.area_certify.specs.Areas.{AreThoseWithAreas}
use Rattle.area_certify.specs.FirstWrong.{HasNoWrong, IsFeature, IsFirstWrong}
use Rattle.area_certify.specs.Lines.{text_lines}

-- The candidate has no area; or it has one, and the next line is its feature with this counter; or it has one, and no such line.
abbrev pub TellsNextLine : Option UniqueId → List Object → ℕ → ObjectRef → List (List ℕ) → Told → Type 0
TellsNextLine ids objects counter candidate lines NoArea = IsSound objects candidate → ⊥
TellsNextLine ids objects counter candidate lines (Right rest) =
    IsSound objects candidate × (line : List ℕ) × IsFeature ids objects counter candidate line × (lines ≡ line ∷ text_lines rest.now)
TellsNextLine ids objects counter candidate lines Wrong =
    IsSound objects candidate × ((line : List ℕ) (later : List (List ℕ)) → lines ≡ line ∷ later → IsFeature ids objects counter candidate line → ⊥)

pub record IsLineTold (ids : Option UniqueId) (objects : List Object) (counter : ℕ) (candidate : ObjectRef) (lines : List (List ℕ)) (told : Told) : Type 0 where
  pub tells : TellsNextLine ids objects counter candidate lines told

-- the verdict on lines against these candidates
abbrev pub IsVerdict : Option UniqueId → List Object → List ObjectRef → List (List ℕ) → Verdict → Type 0
IsVerdict ids objects candidates lines Yes = (areas : List ObjectRef) × AreThoseWithAreas objects candidates areas × HasNoWrong ids objects areas lines
IsVerdict ids objects candidates lines (No number) = (areas : List ObjectRef) × AreThoseWithAreas objects candidates areas × IsFirstWrong ids objects areas lines number
