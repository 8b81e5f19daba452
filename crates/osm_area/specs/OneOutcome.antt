-- The law that outcomes are determined, as a statement.
use Rattle.std.specs.Prelude.{List, ◌≡◌}
use Rattle.osm_elements.specs.declared.object.Object.{Object}
use Rattle.osm_elements.specs.declared.object.ObjectRef.{ObjectRef}
use Rattle.osm_area.specs.Outcome.{IsOutcome}
use Rattle.osm_area.specs.declared.outcome.Outcome.{Outcome}

-- A candidate has at most one outcome: its polygons, problems and notes are a function of the live objects.
abbrev pub OutcomeIsOne : Type 0
OutcomeIsOne =
    (objects : List Object) (candidate : ObjectRef) (o p : Outcome) → IsOutcome objects candidate o →
    IsOutcome objects candidate p → o ≡ p
