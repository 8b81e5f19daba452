-- That an export of any objects has a whole, as a statement.
use Rattle.std.specs.Prelude.{List}
use Rattle.osm_elements.specs.declared.object.Object.{Object}
use Rattle.osm_words.specs.Job.{ExportSettings}
use Rattle.osm_job.specs.Whole.{Whole}
use Rattle.job_export.specs.Export.{IsExport}

-- for all settings and objects there is something right to write
abbrev pub ExportExists : Type 0
ExportExists = (settings : ExportSettings) (objects : List Object) → (whole : Whole) × IsExport settings objects whole
