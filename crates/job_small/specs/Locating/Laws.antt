-- Laws of what a locate job must do, as statements.
use Rattle.std.specs.Prelude.{◌≡◌, ℕ, List}
use Rattle.osm_elements.specs.declared.object.Object.{Object}
use Rattle.osm_words.specs.Job.{LocateSettings}
use Rattle.osm_job.specs.Whole.{Whole}
use Rattle.job_small.specs.Locating.Locate.{IsLocate}

-- for any objects and any text there is something that a locate job must write
abbrev pub LocatesExist : Type 0
LocatesExist = (settings : LocateSettings) (objects : List Object) (text : List ℕ) → (whole : Whole) × IsLocate settings objects text whole

-- there is at most one list of what it must write, and at most one ending
abbrev pub LocateIsOne : Type 0
LocateIsOne =
    (settings : LocateSettings) (objects : List Object) (text : List ℕ) (v w : Whole) →
    IsLocate settings objects text v → IsLocate settings objects text w → v ≡ w
