-- That each text of areas has one verdict, as statements.
use Rattle.std.specs.Prelude.{◌≡◌, ◌⊎◌, ℕ, List, Option}
use Rattle.osm_elements.specs.declared.object.Object.{Object}
use Rattle.osm_objects.specs.declared.choice.Choice.{Choice}
use Rattle.osm_objects.specs.declared.area.UniqueId.{UniqueId}
use Rattle.area_certify.specs.FirstWrong.{HasNoWrongLine, IsFirstWrongLine}

-- a text has at most one first wrong line
abbrev pub FirstWrongLineIsOne : Type 0
FirstWrongLineIsOne =
    (choice : Choice) (ids : Option UniqueId) (objects : List Object) (text : List ℕ) (m n : ℕ) →
    IsFirstWrongLine choice ids objects text m → IsFirstWrongLine choice ids objects text n → m ≡ n

-- a text has a first wrong line, or none
abbrev pub TextsHaveAVerdict : Type 0
TextsHaveAVerdict =
    (choice : Choice) (ids : Option UniqueId) (objects : List Object) (text : List ℕ) →
    HasNoWrongLine choice ids objects text ⊎ ((number : ℕ) × IsFirstWrongLine choice ids objects text number)

-- and not both
abbrev pub VerdictsExclude : Type 0
VerdictsExclude =
    (choice : Choice) (ids : Option UniqueId) (objects : List Object) (text : List ℕ) (number : ℕ) →
    HasNoWrongLine choice ids objects text → IsFirstWrongLine choice ids objects text number → ⊥
