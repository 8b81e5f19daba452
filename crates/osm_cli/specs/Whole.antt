-- What a run must write in all, and how it must end, by its job.
use Rattle.osm_words.specs.Job.{Job, certify, coastline, export, filter, locate, sample}
use Rattle.osm_job.specs.Texts.{Texts}
use Rattle.osm_job.specs.Whole.{IsReadThen, Whole}
use Rattle.osm_job.specs.Worked.{OverBoth}
use Rattle.job_coastline.specs.Coastline.{IsCoastline}
use Rattle.job_export.specs.Export.{IsExport}
use Rattle.job_small.specs.Certifying.Certify.{IsCertify}
use Rattle.job_small.specs.Filtering.Filter.{IsFilter}
use Rattle.job_small.specs.Locating.Locate.{IsLocate}
use Rattle.job_small.specs.Sampling.Sample.{IsSample}
use Rattle.osm_cli.specs.Job.{inputs_of}

-- What is right for a job over the texts of its inputs.
abbrev pub IsWhole : (job : Job) → Texts (inputs_of job) → Whole → Type 0
IsWhole (export settings) texts whole = IsReadThen (IsExport settings) texts.0 whole
IsWhole (coastline settings) texts whole = IsReadThen (IsCoastline settings) texts.0 whole
IsWhole (sample count) texts whole = IsSample count whole
IsWhole (filter settings) texts whole = IsReadThen IsFilter texts.0 whole
IsWhole (certify settings) texts whole = OverBoth (IsCertify settings) settings.file settings.text texts whole
IsWhole (locate settings) texts whole = OverBoth (IsLocate settings) settings.file settings.points texts whole
