-- Laws of what a filter job must do, as statements.
use Rattle.std.specs.Prelude.{◌≡◌, ℕ, List, Ok}
use Rattle.osm_elements.specs.declared.object.Object.{Object}
use Rattle.osm_input.specs.Reading.{IsReadAs}
use Rattle.osm_job.specs.Whole.{Whole}
use Rattle.job_small.specs.Filtering.Filter.{IsFilter}

-- there is something that a filter job must write over the objects read from an input
abbrev pub FiltersExist : Type 0
FiltersExist =
    (limit longest : ℕ) (bytes : List ℕ) (objects : List Object) → IsReadAs limit longest bytes (Ok objects) →
    (whole : Whole) × IsFilter objects whole

-- over any objects there is at most one list of what it must write, and at most one ending
abbrev pub FilterIsOne : Type 0
FilterIsOne = (objects : List Object) (v w : Whole) → IsFilter objects v → IsFilter objects w → v ≡ w
