-- By the polygons that the rings were before they were begun elsewhere.
use Rattle.osm_nest.proofs.NestedKinds.{nested-around, nested-kinds}
use Rattle.osm_nest.proofs.laws.nested_have_kinds.Goals as goal

pub returns-clause-kinds : goal.returns-clause-kinds
returns-clause-kinds c = nested-kinds

pub returns-clause-around : goal.returns-clause-around
returns-clause-around c = nested-around
