-- That the points of a list are found in one way, as statements.
use Rattle.std.specs.Prelude.{◌≡◌, List}
use Rattle.osm_lattice.specs.declared.loc.Loc.{Loc}
use Rattle.osm_elements.specs.declared.object.Object.{Object}
use Rattle.osm_objects.specs.declared.choice.Choice.{Choice}
use Rattle.area_locate.specs.declared.found.Found.{Found}
use Rattle.area_locate.specs.Hits.{AreFound}

-- there is one list of entries at most
abbrev pub FoundIsOne : Type 0
FoundIsOne =
    (choice : Choice) (objects : List Object) (points : List Loc) (a b : List Found) →
    AreFound choice objects points a → AreFound choice objects points b → a ≡ b

-- and there is one
abbrev pub FoundExists : Type 0
FoundExists = (choice : Choice) (objects : List Object) (points : List Loc) → (found : List Found) × AreFound choice objects points found
